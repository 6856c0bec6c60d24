-- What is printed of a relation: its name (docs/SPECIFICATION.md, Calls: Relate).
use Rattle.std.specs.Prelude.{ℕ, List, codes}
use Rattle.causality.specs.declared.Relation.{Relation}
use Rattle.causality.specs.declared.Relation.TheVariants.{Same, Before, After, Concurrent}

abbrev pub relation_text : Relation → List ℕ
relation_text Same = codes "Same"
relation_text Before = codes "Before"
relation_text After = codes "After"
relation_text Concurrent = codes "Concurrent"
