use Rattle.std.proofs.Common.{map, ap, sym, ◌∙◌}
use Rattle.std.specs.FinMap as finite
use Rattle.std.proofs.lemmas.List.Elements.{same_from_all_zip}
use Rattle.namespace.specs.Keys.{by_bytes}
use Rattle.namespace.specs.Listing.{listed_value, named_root}
use Rattle.namespace.proofs.Entries.{entries_seen}
use Rattle.namespace.proofs.Listed.{none_listed, one_listed}
use Rattle.namespace.proofs.names.Names.files.Goals as goal

pub loop-name-init : goal.loop-name-init
loop-name-init c =
    let all = sym (entries_seen c.self.inside.entries.entries c.len.ensures.ordered) ∙ ap finite.entries c.self.view_is in
    none_listed listed_value named_root c.in_ok-names.names.items c.into_iter-name-iterator.result (finite.entries c.args.self.now) c.in_ok-names.ensures.items
    (ap by_bytes c.into_iter-name-iterator.ensures.into_iter_gives.0 ∙ all)

pub loop-name-preserved : goal.loop-name-preserved
loop-name-preserved c =
    let name = same_from_all_zip _ c.in-Some.name.now.items c.in_ok-clone.field-0.items c.in_ok-clone.ensures.cases.0 (λ _ _ e. e) in
    one_listed listed_value named_root c.loop-name.names.items c.push.new.self.items _ (c.in-Some.name.now, c.in-Some.named.now) c.loop-name.name-iterator c.next.new.self
    (map named_root (finite.entries c.args.self.now)) c.in_ok-push.ensures.items c.in-Some.ensures.steps (ap (λ bytes. named_root (bytes, c.in-Some.named.now)) name)
    c.loop-name.invariant
