use Rattle.std.proofs.Common.{arith}
use Rattle.store_model.specs.Slots.{last_id}
use Rattle.store_model.specs.Collisions.{IsIn}
use Rattle.store_model.proofs.Together.{some_sealed, all_sealed, can_place, one_by_one, free_left}
use Rattle.store_model.proofs.laws.sealed_together_keeps_files.Goals as goal

pub returns-clause-some : goal.returns-clause-some
returns-clause-some c = λ among ps store files image new distinct may can stands left.
    some_sealed (IsIn among) files distinct ps (last_id store.held) store image new may (omega arith) can stands left

pub returns-clause-all : goal.returns-clause-all
returns-clause-all c = λ among ps store files image new distinct may can stands left.
    all_sealed (IsIn among) files distinct ps (last_id store.held) store image new may (omega arith) can stands left

pub returns-clause-place : goal.returns-clause-place
returns-clause-place c = λ ps store first ids room. (can_place (last_id store.held) ps store first ids room, one_by_one ps store first)

pub returns-clause-room : goal.returns-clause-room
returns-clause-room c = free_left
