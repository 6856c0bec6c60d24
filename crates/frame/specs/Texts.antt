-- What is printed of a mark's name, and of a refusal: its condition (docs/SPECIFICATION.md, Marks: name; Refusals).
use Rattle.std.specs.Prelude.{ℕ, List, ◌++◌, codes, decimal}
use Rattle.frame.specs.declared.MarkId.{MarkId}
use Rattle.frame.specs.declared.Refusal.{Refusal}
use Rattle.frame.specs.declared.Refusal.TheVariants.{DeskRange, FrameLength, FrameVersion, EntryCount, FieldRange, EntryRange, NotYetMade}
use Rattle.frame.specs.declared.Refusal.TheVariants.{OtherFields, DeskFull, WaitingFull, FalseStamp, NotExecuted, OutputShort, SameEdition}

-- The name d.n: the desk, a dot, the number, both in decimal digits.
abbrev pub name_text : MarkId → List ℕ
name_text i = decimal i.desk ++ codes "." ++ decimal i.number.0

abbrev pub refusal_text : Refusal → List ℕ
refusal_text DeskRange = codes "no such desk"
refusal_text FrameLength = codes "the frame's length is wrong"
refusal_text FrameVersion = codes "no such edition"
refusal_text EntryCount = codes "the count of entries is wrong"
refusal_text FieldRange = codes "a field is out of range"
refusal_text EntryRange = codes "an entry is out of range"
refusal_text NotYetMade = codes "a mark of this desk that is not yet made"
refusal_text OtherFields = codes "a known mark with other fields"
refusal_text DeskFull = codes "the desk is full"
refusal_text WaitingFull = codes "too many marks wait"
refusal_text FalseStamp = codes "the stamp is false"
refusal_text NotExecuted = codes "the mark is not executed"
refusal_text OutputShort = codes "the lent output is too short"
refusal_text SameEdition = codes "the frame has this edition already"
