use Rattle.container_meta.proofs.Prelude.{◌≡◌, ◌++◌, ◌∷◌, [], List, ℕ, map, ap, sym, ◌∙◌, append_assoc}
use Rattle.std.specs.FinMap as finite
use Rattle.container_meta.proofs.KeyEntries.{entries_seen}
use Rattle.container_meta.proofs.key_map.KeyMap.keys.Goals as goal

none_listed : {X : Type 0} (listed : List (List ℕ)) (left all : List (List ℕ × X)) → listed ≡ [] → left ≡ all → listed ++ map (λ e. e.0) left ≡ map (λ e. e.0) all
none_listed listed left all none same = ap (λ xs. xs ++ map (λ e. e.0) left) none ∙ ap (map (λ e. e.0)) same

pub loop-key-init : goal.loop-key-init
loop-key-init g c =
    none_listed c.in_ok-keys.keys.items c.into_iter-key-iterator.result (finite.entries c.args.self.now) c.in_ok-keys.ensures.items
    (c.into_iter-key-iterator.ensures.into_iter_gives.0 ∙ sym (entries_seen c.self.inside.entries.entries c.len.ensures.ordered) ∙ ap finite.entries c.self.view_is)

-- one key more is listed
one_more : {X : Type 0} (listed after : List (List ℕ)) (one : List ℕ) (value : X) (left rest : List (List ℕ × X)) (all : List (List ℕ)) → after ≡ listed ++ one ∷ [] →
    left ≡ (one, value) ∷ rest
    → listed ++ map (λ e. e.0) left ≡ all → after ++ map (λ e. e.0) rest ≡ all
one_more listed after one value left rest all pushed first h =
    ap (λ xs. xs ++ map (λ e. e.0) rest) pushed ∙ append_assoc listed (one ∷ []) (map (λ e. e.0) rest)
    ∙ ap (λ xs. listed ++ map (λ e. e.0) xs) (sym first) ∙ h

pub loop-key-preserved : goal.loop-key-preserved
loop-key-preserved g c =
    one_more c.loop-key.keys.items c.push.new.self.items c.in-Some.key.now c.in-Some.field-0-1.now c.loop-key.key-iterator c.next.new.self
    (map (λ e. e.0) (finite.entries c.args.self.now)) c.in_ok-push.ensures.items
    c.in-Some.ensures.steps c.loop-key.invariant
