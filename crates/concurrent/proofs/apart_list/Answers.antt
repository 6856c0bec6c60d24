-- `apart_list` meets its contract: its three ways out are those of `ApartWays`, from what find and apart ensure.
use Rattle.std.proofs.Common.{rules}
use Rattle.executed.proofs.Chain.{found_inside}
use Rattle.concurrent.proofs.ApartWays.{apart-all-listed, apart-not-executed, apart_too_short}
use Rattle.concurrent.proofs.apart_list.Goals as goal

pub find-requires : goal.find-requires
find-requires c = record { names = _; chain = c.requires.chain }

pub returns-in_default : goal.returns-in_default
returns-in_default c = search (rules, apart-not-executed)

pub apart-list-requires : goal.apart-list-requires
apart-list-requires c = (c.requires.few, found_inside _ _ c.requires _ _ c.in-Some.ensures, c.requires.named)

pub returns-then-room-list : goal.returns-then-room-list
returns-then-room-list c own bs waiting l s = apart_too_short _ l own bs waiting _ _ _ c.in-Some.ensures s _ c.apart-list.ensures c.if-room-list.true

pub returns : goal.returns
returns c own bs waiting l s = apart-all-listed _ l own bs waiting _ _ _ c.in-Some.ensures s _ c.apart-list.ensures c.if-room-list.false
