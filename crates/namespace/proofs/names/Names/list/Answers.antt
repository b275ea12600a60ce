use Rattle.std.proofs.Common.{◌≡◌, map, ap, sym, subst, ◌∙◌, rules}
use Rattle.std.specs.FinMap as finite
use Rattle.std.proofs.lemmas.List.Elements.{same_from_all_zip}
use Rattle.std.specs.List.Sorted.{IsPermutation}
use Rattle.std.proofs.lemmas.List.Sorted.{IsPermutation-refl}
use Rattle.namespace.specs.Keys.{by_bytes}
use Rattle.namespace.specs.Names.{AreNames, record_value, put_of}
use Rattle.namespace.proofs.Again.{replays, taken}
use Rattle.namespace.proofs.Entries.{entries_seen}
use Rattle.namespace.proofs.Listed.{none_listed, one_listed}
use Rattle.namespace.proofs.names.Names.list.Goals as goal

pub loop-name-init : goal.loop-name-init
loop-name-init c =
    let all = sym (entries_seen c.self.inside.entries.entries c.len.ensures.ordered) ∙ ap finite.entries c.self.view_is in
    none_listed record_value put_of c.in_ok-records.records.items c.into_iter-name-iterator.result (finite.entries c.args.self.now) c.in_ok-records.ensures.items
    (ap by_bytes c.into_iter-name-iterator.ensures.into_iter_gives.0 ∙ all)

pub loop-name-preserved : goal.loop-name-preserved
loop-name-preserved c =
    let name = same_from_all_zip _ c.in-Some.name.now.items c.in_ok-clone.field-0.items c.in_ok-clone.ensures.cases.0 (λ _ _ e. e) in
    one_listed record_value put_of c.loop-name.records.items c.push.new.self.items _ (c.in-Some.name.now, c.in-Some.named.now) c.loop-name.name-iterator c.next.new.self
    (map put_of (finite.entries c.args.self.now)) c.in_ok-push.ensures.items c.in-Some.ensures.steps (ap (λ bytes. put_of (bytes, c.in-Some.named.now)) name)
    c.loop-name.invariant

pub returns-clause-replays : goal.returns-clause-replays
returns-clause-replays c =
    let listed : map record_value c.loop-name.records.items ≡ map put_of (finite.entries c.args.self.now) = search rules in
    replays c.args.self.now (map record_value c.loop-name.records.items)
    (subst (λ rs. IsPermutation (map put_of (finite.entries c.args.self.now)) rs) (sym listed) (IsPermutation-refl _))

pub returns-clause-taken : goal.returns-clause-taken
returns-clause-taken c =
    let listed : map record_value c.loop-name.records.items ≡ map put_of (finite.entries c.args.self.now) = search rules in
    taken c.args.self.now (map record_value c.loop-name.records.items) (subst AreNames c.self.view_is c.self.invariant)
    (subst (λ rs. IsPermutation (map put_of (finite.entries c.args.self.now)) rs) (sym listed) (IsPermutation-refl _))
