use Rattle.ingest_session.proofs.Prelude.{◌≡◌, ◌∙◌, ◌++◌, ap, arith, drop, length, map, rules, subst, sym}
use Rattle.std.proofs.lemmas.Simd.{map-map}
use Rattle.sha2.specs.Sha256.{sha256}
use Rattle.ingest_session.specs.Buffers.{AreDigests}
use Rattle.ingest_session.proofs.Digests.{kept_are_few, kept_of_all}
use Rattle.ingest_session.proofs.queue.Queue.hash.Goals as goal

pub from-requires : goal.from-requires
from-requires g c =
    omega (arith, c.len.ensures, c.self.inside.kept.ok, kept_are_few c.self.inside.kept.items c.self.inside.waiting.segments c.self.invariant)

pub invariant_of-self : goal.invariant_of-self
invariant_of-self g c =
    let ds = c.self.inside.kept.items in
    let ss = c.self.inside.waiting.segments in
    let bare = c.in_ok-bare.ensures ∙ ap (λ n. drop n ss) (let same : c.len.result ≡ length ds = omega (arith, c.len.ensures, c.self.inside.kept.ok) in same) in
    let taken = c.in_ok-taken.ensures ∙ ap (map (λ t. sha256 t.now)) c.deref.ensures.value ∙ sym (map-map sha256 (λ t. t.now) c.in_ok-bare.bare.items) ∙ ap (map sha256) bare in
    let all = subst (λ more. AreDigests (ds ++ more) ss) (sym taken) (kept_of_all ds ss c.self.invariant) in
    let before = c.self.invariant in
    search (rules, all, before)
