-- Each step keeps the rule of the lock.
use Rattle.std.proofs.Common.{◌≡◌, ◌≢◌, ℕ, zero, suc, ◌+◌, ◌-◌, ◌%◌, ◌^◌, ◌<◌, ◌≤◌, Bool, true, false, List, [], ◌∷◌, ◌++◌, length, get_or, set, refl, sym, ap, ◌∙◌, subst, ⊎_elim, arith, None, Some, Option, MatchBool, eq-eqb, ne_eqb, nat_lt, nat_le, lt-ltb, ltb-true, le-ltb, length-set, length-append, ◌==◌, if◌then◌else◌}
use mathlib.Core.Option.{some, none, some-ne-none, some-injective}
use mathlib.Core.Logic.{dite}
use native.Mathlib.Decide.{ℕ_discrete, dec_lt}
use lib.ListN.{get_elem?}
use lib.Seq.{set-get_or}
use Rattle.std.proofs.Math.Nat.{mod-add-mod}
use Rattle.atomic_table.specs.Table.{State, keeps, takes, gives, Allows, Splits, Joins}
use Rattle.atomic_table.proofs.Lists.{at_set, at_snoc, set_again, set_else, at_longer, one_turn}
use Rattle.turn_lock.specs.declared.history.Turn.{Turn}
use Rattle.turn_lock.specs.declared.history.Home.{Home}
use Rattle.turn_lock.specs.declared.history.Known.{Known}
use Rattle.turn_lock.specs.declared.history.Stage.{Stage}
use Rattle.turn_lock.specs.declared.history.Stage.TheVariants.{Idle, Waits, InTurn}
use Rattle.turn_lock.specs.declared.history.View.{View}
use Rattle.turn_lock.specs.History.{last_of, IsHistory, turns_by, turn_of, times, once_below}
use Rattle.turn_lock.specs.Rule.{total, tickets, tickets_in, numbers_of, HasTicket, home_of, at_home, StandsAt, Follows, Fits, Kept, known, nothing, view_at, first_view}
use Rattle.turn_lock.specs.Plays.{Seated, waiting, in_turn, idle, Draws, IsServed, Looks, Posts, Gives, PassesOn, Meets, left, right, both, spent, shorter}
use Rattle.turn_lock.proofs.Totals.{total_set, total_snoc, total_le, total_one, total_two, each_set, each_last, at_below, times_append}
use Rattle.turn_lock.proofs.Histories.{last_snoc, history_snoc, turns_append, follows_all, follows_append, follows_both, follows_shorter, comparable}

greater_if : (b : Bool) (x y most : ℕ) → x ≤ most → y ≤ most → (if b then y else x) ≤ most
greater_if true x y most l k = k
greater_if false x y most l k = l

module _ {C : Type 0} where
  -- where a ticket stands
  ticket_range : (h : Home C) (log : List (Turn C)) (drawn served : ℕ) (turn : Option ℕ) (p : ℕ) (v : View C) (st : Stage C) (n : ℕ)
      → StandsAt h log drawn served turn p v st → HasTicket n st → (served ≤ n) × (n < drawn)
  ticket_range h log drawn served turn p v Idle n k t = absurd t
  ticket_range h log drawn served turn p v (Waits m) n k t = let a = k.1 in let b = k.2 in (omega arith, omega arith)
  ticket_range h log drawn served turn p v (InTurn m f) n k t = let a = k.1 in let b = k.2 in (omega arith, omega arith)

  -- more tickets are drawn
  more_drawn : (h : Home C) (log : List (Turn C)) (drawn served : ℕ) (turn : Option ℕ) (p : ℕ) (v : View C) (st : Stage C)
      → StandsAt h log drawn served turn p v st → StandsAt h log (drawn + 1) served turn p v st
  more_drawn h log drawn served turn p v Idle k = k
  more_drawn h log drawn served turn p v (Waits m) k = let b = k.2 in (k.0, k.1, omega arith, k.3)
  more_drawn h log drawn served turn p v (InTurn m f) k = let b = k.2 in (k.0, k.1, omega arith, k.3, k.4, k.5)

  tickets_few : (h : Home C) (log : List (Turn C)) (drawn served : ℕ) (turn : Option ℕ) (p : ℕ) (v : View C) (st : Stage C)
      → StandsAt h log drawn served turn p v st → tickets_in st ≤ length v.numbers
  tickets_few h log drawn served turn p v Idle k = omega arith
  tickets_few h log drawn served turn p v (Waits m) k = k.3
  tickets_few h log drawn served turn p v (InTurn m f) k = k.3

  none_beside : (log : List (Turn C)) → Follows [] [] log
  none_beside log = (log, refl, λ x l. absurd (omega arith))

  within_if : (b : Bool) (x : ℕ) (ms ns : List ℕ) (xs ys : List (Turn C)) → 1 ≤ times x (if b then known xs ms else known ys ns).numbers → 1 ≤ times x (ms ++ ns)
  within_if true x ms ns xs ys l = let a = times_append x ms ns in omega arith
  within_if false x ms ns xs ys l = let a = times_append x ms ns in omega arith

  within_both : (v w : View C) (x : ℕ) → 1 ≤ times x (shorter v w).numbers → 1 ≤ times x (v.numbers ++ w.numbers)
  within_both v w x l = within_if (nat_le (length v.seen) (length w.seen)) x v.numbers w.numbers v.seen w.seen l

  abbrev Apart : List (View C) → Type 0
  Apart views = (p q n : ℕ) (v w : View C) → get_elem? views p ≡ some v → get_elem? views q ≡ some w → HasTicket n v.stage → HasTicket n w.stage → p ≡ q

  apart_set : (views : List (View C)) (id : ℕ) (w : View C) → Apart views
      → ((q n : ℕ) (u : View C) → q ≢ id → get_elem? views q ≡ some u → HasTicket n w.stage → HasTicket n u.stage → ⊥)
      → Apart (set views id w)
  apart_set views id w old new p q n v u ep eq tv tu = ⊎_elim
      (λ (a : (p ≡ id) × (w ≡ v)). ⊎_elim
      (λ (b : (q ≡ id) × (w ≡ u)). a.0 ∙ sym b.0)
      (λ (b : (q ≢ id) × (get_elem? views q ≡ some u)). absurd (new q n u b.0 b.1 (subst (λ (x : View C). HasTicket n x.stage) (sym a.1) tv) tu))
      (at_set views id q w u eq))
      (λ (a : (p ≢ id) × (get_elem? views p ≡ some v)). ⊎_elim
      (λ (b : (q ≡ id) × (w ≡ u)). absurd (new p n v a.0 a.1 (subst (λ (x : View C). HasTicket n x.stage) (sym b.1) tu) tv))
      (λ (b : (q ≢ id) × (get_elem? views q ≡ some u)). old p q n v u a.1 b.1 tv tu)
      (at_set views id q w u eq))
      (at_set views id p w v ep)

  -- the ticket stays, or is given up
  apart_kept : (views : List (View C)) (id : ℕ) (v w : View C) → Apart views → get_elem? views id ≡ some v → ((n : ℕ) → HasTicket n w.stage → HasTicket n v.stage)
      → Apart (set views id w)
  apart_kept views id v w old at kept = apart_set views id w old (λ q n u other e mine theirs. other (old q id n u v e at theirs (kept n mine)))

module _ {C : Type 0} (makes : ℕ → C → C → Type 0) (lines : C → ℕ) (opening : C) where
  abbrev St : Type 0
  St = State (Option (Home C)) (View C)

  abbrev Rule : St → Type 0
  Rule = Kept makes lines opening

  abbrev value_of : List (Turn C) → C
  value_of log = last_of opening log

  pub draws : (slots id : ℕ) (me : Seated C) → me.0.stage ≡ Idle → 1 ≤ length me.0.numbers → Allows Rule slots id me 0 (λ n. (n + 1) % 2 ^ 64) (Draws me)
  draws slots id me rests number s r _ at _ =
      let v : View C = me.0 in
      let w : View C = waiting v r.drawn in
      let fit = r.each id v at in
      let stands : r.turn ≢ Some id = subst (StandsAt (home_of r.given (value_of r.log)) r.log r.drawn r.served r.turn id v) rests fit.stands in
      let tick = total_set tickets s.views id v w at in
      let none_before : tickets v ≡ 0 = ap tickets_in rests in
      let below = r.queue in (
        w,
        keeps,
        tt,
        record {
          log = r.log;
          given = r.given;
          drawn = r.drawn + 1;
          served = r.served;
          turn = r.turn;
          holder = λ p t. let old = r.holder p t in (old.0, set_else s.views id p w (λ same. stands (t ∙ ap Some same)) ∙ old.1);
          legal = r.legal;
          few = r.few;
          words_are = ap (λ (ws : List ℕ). set ws 0 ((get_or ws 0 0 + 1) % 2 ^ 64)) r.words_are
              ∙ ap (λ (k : ℕ). k ∷ r.served % 2 ^ 64 ∷ lines (value_of r.log) ∷ []) (mod-add-mod r.drawn (2 ^ 64) 1);
          homes_are = r.homes_are;
          queue = omega arith;
          numbers = (let t = total_set numbers_of s.views id v w at in let n = r.numbers in omega arith);
          once = (λ x. let t = total_set (λ (u : View C). times x u.numbers) s.views id v w at in let n = r.once x in omega arith);
          unused = r.unused;
          apart = apart_set s.views id w r.apart (λ q n u other e mine theirs. let range = ticket_range _ _ _ _ _ _ u u.stage n (r.each q u e).stands theirs in
              let b = range.1 in omega arith);
          each = each_set (Fits opening (home_of r.given (value_of r.log)) r.log (r.drawn + 1) r.served r.turn) s.views id w
              (record {
                opened = fit.opened;
                follows = fit.follows;
                beside = none_beside r.log;
                within = (λ x l. absurd (omega arith));
                stands = (stands, omega arith, omega arith, number);
                counted = fit.counted;
              })
              (λ q u other e. let f = r.each q u e in record {
                opened = f.opened;
                follows = f.follows;
                beside = f.beside;
                within = f.within;
                stands = more_drawn _ _ _ _ _ _ u u.stage f.stands;
                counted = f.counted;
              });
        },
        (r.drawn, sym (ap (λ (ws : List ℕ). get_or ws 0 0) r.words_are), refl),
      )

  -- ---- one place alone has a number

  set_there : (views : List (View C)) (id : ℕ) (v w : View C) → get_elem? views id ≡ some v → get_elem? (set views id w) id ≡ some w
  set_there [] id v w e = absurd (some-ne-none v (sym e))
  set_there (x ∷ xs) zero v w e = refl
  set_there (x ∷ xs) (suc id) v w e = set_there xs id v w e

  holder_ticket : (h : Home C) (log : List (Turn C)) (drawn served : ℕ) (turn : Option ℕ) (p : ℕ) (v : View C) (st : Stage C)
      → StandsAt h log drawn served turn p v st → turn ≡ Some p → HasTicket served st
  holder_ticket h log drawn served turn p v Idle k t = absurd (k t)
  holder_ticket h log drawn served turn p v (Waits m) k t = absurd (k.0 t)
  holder_ticket h log drawn served turn p v (InTurn m f) k t = k.1

  -- what another pass knows stays, where neither it was in turn nor is
  others_turn : (h h' : Home C) (log log' : List (Turn C)) (drawn served served' : ℕ) (turn turn' : Option ℕ) (q : ℕ) (v : View C) (st : Stage C)
      → turn ≢ Some q → turn' ≢ Some q → ((m : ℕ) → HasTicket m st → served ≤ m → served' ≤ m)
      → StandsAt h log drawn served turn q v st → StandsAt h' log' drawn served' turn' q v st
  others_turn h h' log log' drawn served served' turn turn' q v Idle was is later k = is
  others_turn h h' log log' drawn served served' turn turn' q v (Waits m) was is later k = (is, later m refl k.1, k.2, k.3)
  others_turn h h' log log' drawn served served' turn turn' q v (InTurn m f) was is later k = absurd (was k.0)

  abbrev place_of : Option ℕ → ℕ
  place_of None = 0
  place_of (Some p) = p

  other_place : (id q : ℕ) → q ≢ id → Some id ≢ Some q
  other_place id q other same = other (sym (ap place_of same))

  nowhere : (turn : Option ℕ) (q : ℕ) → turn ≡ None → turn ≢ Some q
  nowhere turn q empty same = absurd (cc)

  nobody : (s : St) (r : Rule s) (id : ℕ) (v : View C) → get_elem? s.views id ≡ some v → HasTicket r.served v.stage → r.turn ≢ Some id → (t : Option ℕ) → r.turn ≡ t → r.turn ≡ None
  nobody s r id v at mine stands None t = t
  nobody s r id v at mine stands (Some p) t =
      let h = r.holder p t in
      let theirs = holder_ticket _ _ _ _ _ _ h.0 h.0.stage (r.each p h.0 h.1).stands t in
      absurd (stands (t ∙ ap Some (r.apart p id r.served h.0 v h.1 at theirs mine)))

  pub looks_at : (slots id n : ℕ) (o : Option C) (seen : List (Turn C)) (beside : Known C) (numbers : List ℕ) (g : ℕ)
      → Allows Rule slots id (view_at o seen beside numbers (Waits n) g, []) 1 (λ k. k) (Looks makes (view_at o seen beside numbers (Waits n) g, []))
  looks_at slots id n o seen beside numbers g s r _ at _ = let v : View C = view_at o seen beside numbers (Waits n) g in dite (ℕ_discrete (get_or s.words 1 0) (n % 2 ^ 64))
      (λ e.
      let fit = r.each id v at in
      let stands = fit.stands in
      let h : Home C = home_of r.given (value_of r.log) in
      let few : total tickets s.views ≤ total numbers_of s.views = total_le tickets numbers_of s.views (λ p u at_p. tickets_few _ _ _ _ _ _ u u.stage (r.each p u at_p).stands) in
      let all = r.numbers in
      let most = r.few in
      let queue = r.queue in
      let from = stands.1 in
      let until = stands.2 in
      let now : r.served ≡ n = one_turn r.served n (2 ^ 64) from (omega arith) (sym (ap (λ (ws : List ℕ). get_or ws 1 0) r.words_are) ∙ e) in
      let free : r.turn ≡ None = nobody s r id v at (sym now) stands.0 r.turn refl in
      let w : View C = in_turn v r.log n h in
      let tick = total_set tickets s.views id v w at in (
        w,
        takes 0 (Some h),
        ap (λ hs. get_elem? hs 0) (r.homes_are ∙ ap (λ t. at_home t h ∷ []) free),
        record {
          log = r.log;
          given = r.given;
          drawn = r.drawn;
          served = r.served;
          turn = Some id;
          holder = λ p t. (w, subst (λ q. get_elem? (set s.views id w) q ≡ some w) (ap place_of t) (set_there s.views id v w at));
          legal = r.legal;
          few = r.few;
          words_are = set-get_or s.words 1 0 ∙ r.words_are;
          homes_are = ap (λ hs. set hs 0 none) (r.homes_are ∙ ap (λ t. at_home t h ∷ []) free);
          queue = omega arith;
          numbers = (let t = total_set numbers_of s.views id v w at in omega arith);
          once = (λ x. let t = total_set (λ (u : View C). times x u.numbers) s.views id v w at in let k = r.once x in omega arith);
          unused = r.unused;
          apart = apart_kept s.views id v w r.apart at (λ m k. k);
          each = each_set (Fits opening h r.log r.drawn r.served (Some id)) s.views id w
              (record {
                opened = fit.opened;
                follows = follows_all numbers r.log;
                beside = none_beside r.log;
                within = (λ x l. absurd (omega arith));
                stands = (refl, sym now, omega arith, stands.3, refl, refl);
                counted = omega arith;
              })
              (λ q u other at_q. let f = r.each q u at_q in record {
                opened = f.opened;
                follows = f.follows;
                beside = f.beside;
                within = f.within;
                stands = others_turn _ _ _ _ _ _ _ _ _ _ u u.stage (nowhere r.turn q free) (other_place id q other) (λ m k l. l) f.stands;
                counted = f.counted;
              });
        },
        subst (λ b. MatchBool b (IsServed makes v n (w, (0, Some h) ∷ [])) (◌≡◌ {A = Seated C} (w, (0, Some h) ∷ []) (v, []))) (sym (eq-eqb _ _ e))
            (record {
              found = h;
              seen = r.log;
              is = refl;
              all = record {
                follows = fit.follows;
                legal = λ first is. (subst (λ z. IsHistory makes z r.log) (sym (fit.opened first is)) r.legal, ap (λ z. last_of z r.log) (sym (fit.opened first is)));
                below = λ x. (let one = total_one (λ (u : View C). times x u.numbers) s.views id v at in let k = r.once x in omega arith);
                unused = r.unused;
                counted = fit.counted;
              };
            }),
      ))
      (λ ne. (
        v,
        keeps,
        tt,
        subst (λ (z : List ℕ × List (View C)). Rule record {
          words = z.0;
          homes = s.homes;
          views = z.1;
        }) (λ i. (sym (set-get_or s.words 1 0) i, sym (set_again s.views id v at) i)) r,
        subst (λ b. MatchBool b (IsServed makes v n (v, [])) (◌≡◌ {A = Seated C} (v, []) (v, []))) (sym (ne_eqb _ _ ne)) refl,
      ))

  unit_most : (b : Bool) → (if b then 1 else 0) ≤ 1
  unit_most true = omega arith
  unit_most false = omega arith

  unit_true : (b : Bool) → 1 ≤ (if b then 1 else 0) → b ≡ true
  unit_true true l = refl
  unit_true false l = absurd (omega arith)

  has_own : (by : ℕ) (others : List ℕ) → 1 ≤ times by (by ∷ others)
  has_own by others = subst (λ b. 1 ≤ (if b then 1 else 0) + times by others) (sym (eq-eqb by by refl)) (omega arith)

  pub below_given : (s : St) (r : Rule s) (id : ℕ) (v : View C) (x : ℕ) → get_elem? s.views id ≡ some v → 1 ≤ times x v.numbers → x < r.given
  below_given s r id v x at some_one =
      let one = total_one (λ (u : View C). times x u.numbers) s.views id v at in
      let once = r.once x in
      ltb-true x r.given (unit_true (nat_lt x r.given) (omega arith))

  -- two places have no number together
  alone : (s : St) (r : Rule s) (id q : ℕ) (v u : View C) (x : ℕ) → q ≢ id → get_elem? s.views id ≡ some v → get_elem? s.views q ≡ some u → 1 ≤ times x v.numbers
      → 1 ≤ times x u.numbers → ⊥
  alone s r id q v u x other at at_q mine theirs =
      let two = total_two (λ (y : View C). times x y.numbers) s.views id q v u (λ same. other (sym same)) at at_q in
      let once = r.once x in
      let most = unit_most (nat_lt x r.given) in
      absurd (omega arith)

  none_of : (x by : ℕ) (value : C) → by ≢ x → turns_by x (turn_of by value ∷ []) ≡ 0
  none_of x by value ne = ap (λ b. (if b then 1 else 0) + 0) (ne_eqb by x ne)

  pub posts_at : (slots id n by count : ℕ) (others : List ℕ) (o : Option C) (seen : List (Turn C)) (beside : Known C) (g : ℕ) (found left : Home C)
      → makes by found.value left.value → left.given ≡ found.given → count ≡ lines left.value
      → let m : Seated C = (view_at o seen beside (by ∷ others) (InTurn n found) g, (0, Some left) ∷ []) in Allows Rule slots id m 2 (λ _. count) (λ _. Posts m count)
  posts_at slots id n by count others o seen beside g found left made given counted s r _ at _ =
      let v : View C = view_at o seen beside (by ∷ others) (InTurn n found) g in
      let e : Turn C = turn_of by left.value in
      let w : View C = view_at o (seen ++ e ∷ []) nothing (by ∷ others) (InTurn n left) g in
      let fit = r.each id v at in
      let stands = fit.stands in
      let h : Home C = home_of r.given (value_of r.log) in
      let log : List (Turn C) = r.log ++ e ∷ [] in
      let last : last_of opening log ≡ left.value = last_snoc opening r.log e in
      let is : found ≡ h = stands.4 in
      let below : by < r.given = below_given s r id v by at (has_own by others) in
      let here : left ≡ home_of r.given (last_of opening log) = λ i. home_of ((given ∙ ap (λ (k : Home C). k.given) is) i) (sym last i) in
      let tick = total_set tickets s.views id v w at in
      let queue = r.queue in (
        w,
        keeps,
        tt,
        record {
          log = log;
          given = r.given;
          drawn = r.drawn;
          served = r.served;
          turn = Some id;
          holder = λ p t. (w, subst (λ q. get_elem? (set s.views id w) q ≡ some w) (ap place_of t) (set_there s.views id v w at));
          legal = history_snoc makes opening r.log e r.legal (subst (λ (k : Home C). makes by k.value left.value) is made);
          few = r.few;
          words_are = ap (λ (ws : List ℕ). set ws 2 count) r.words_are ∙ ap (λ (k : ℕ). r.drawn % 2 ^ 64 ∷ r.served % 2 ^ 64 ∷ k ∷ []) (counted ∙ ap lines (sym last));
          homes_are = r.homes_are ∙ ap (λ t. at_home t h ∷ []) stands.0;
          queue = omega arith;
          numbers = (let t = total_set numbers_of s.views id v w at in let k = r.numbers in omega arith);
          once = (λ x. let t = total_set (λ (u : View C). times x u.numbers) s.views id v w at in let k = r.once x in omega arith);
          unused = λ x l. (let a = turns_append x r.log (e ∷ []) in let b = r.unused x l in
              let c : turns_by x (e ∷ []) ≡ 0 = none_of x by left.value (λ (same : by ≡ x). absurd (omega arith)) in omega arith);
          apart = apart_kept s.views id v w r.apart at (λ m k. k);
          each = each_set (Fits opening (home_of r.given (last_of opening log)) log r.drawn r.served (Some id)) s.views id w
              (record {
                opened = fit.opened;
                follows = subst (λ z. Follows (by ∷ others) (z ++ e ∷ []) log) (sym stands.5) (follows_all (by ∷ others) log);
                beside = none_beside log;
                within = (λ x l. absurd (omega arith));
                stands = (refl, stands.1, stands.2, stands.3, here, ap (λ z. z ++ e ∷ []) stands.5);
                counted = fit.counted;
              })
              (λ q u other at_q. let f = r.each q u at_q in record {
                opened = f.opened;
                follows = follows_append u.numbers u.seen r.log (e ∷ []) (λ x some_x. none_of x by left.value (λ (same : by ≡ x). alone s r id q v u by other at at_q
                    (has_own by others) (subst (λ y. 1 ≤ times y u.numbers) (sym same) some_x))) f.follows;
                beside = follows_append u.beside.numbers u.beside.seen r.log (e ∷ []) (λ x some_x. none_of x by left.value (λ
                    (same : by ≡ x). alone s r id q v u by other at at_q (has_own by others) (subst (λ y. 1 ≤ times y u.numbers) (sym same) (f.within x some_x)))) f.beside;
                within = f.within;
                stands = others_turn _ _ _ _ _ _ _ _ _ _ u u.stage (λ t. other_place id q other (sym stands.0 ∙ t)) (other_place id q other) (λ m k l. l) f.stands;
                counted = f.counted;
              });
        },
        refl,
      )

  pub passes_at : (slots id n : ℕ) (o : Option C) (seen : List (Turn C)) (beside : Known C) (numbers : List ℕ) (g : ℕ) (found : Home C)
      → let m : Seated C = (view_at o seen beside numbers (InTurn n found) g, (0, Some found) ∷ []) in Allows Rule slots id m 1 (λ k. (k + 1) % 2 ^ 64) (PassesOn m)
  passes_at slots id n o seen beside numbers g found s r _ at _ =
      let v : View C = view_at o seen beside numbers (InTurn n found) g in
      let w : View C = idle v in
      let fit = r.each id v at in
      let stands = fit.stands in
      let h : Home C = home_of r.given (value_of r.log) in
      let tick = total_set tickets s.views id v w at in
      let queue = r.queue in
      let until = stands.2 in (
        w,
        gives,
        tt,
        record {
          log = r.log;
          given = r.given;
          drawn = r.drawn;
          served = r.served + 1;
          turn = None;
          holder = λ p t. absurd (cc);
          legal = r.legal;
          few = r.few;
          words_are = ap (λ (ws : List ℕ). set ws 1 ((get_or ws 1 0 + 1) % 2 ^ 64)) r.words_are
              ∙ ap (λ (k : ℕ). r.drawn % 2 ^ 64 ∷ k ∷ lines (value_of r.log) ∷ []) (mod-add-mod r.served (2 ^ 64) 1);
          homes_are = ap (λ hs. set hs 0 (some (Some found))) (r.homes_are ∙ ap (λ t. at_home t h ∷ []) stands.0) ∙ ap (λ (k : Home C). some (Some k) ∷ []) stands.4;
          queue = omega arith;
          numbers = (let t = total_set numbers_of s.views id v w at in let k = r.numbers in omega arith);
          once = (λ x. let t = total_set (λ (u : View C). times x u.numbers) s.views id v w at in let k = r.once x in omega arith);
          unused = r.unused;
          apart = apart_kept s.views id v w r.apart at (λ m k. absurd k);
          each = each_set (Fits opening h r.log r.drawn (r.served + 1) None) s.views id w
              (record {
                opened = fit.opened;
                follows = fit.follows;
                beside = none_beside r.log;
                within = (λ x l. absurd (omega arith));
                stands = (λ t. absurd (cc));
                counted = fit.counted;
              })
              (λ q u other at_q. let f = r.each q u at_q in record {
                opened = f.opened;
                follows = f.follows;
                beside = f.beside;
                within = f.within;
                stands = others_turn _ _ _ _ _ _ _ _ _ _ u u.stage (λ t. other_place id q other (sym stands.0 ∙ t)) (λ t. absurd (cc))
                    (λ m k l. dite (ℕ_discrete m r.served)
                    (λ same. absurd (other (r.apart q id m u v at_q at k (stands.1 ∙ sym same))))
                    (λ ne. omega arith)) f.stands;
                counted = f.counted;
              });
        },
        refl,
      )

  once_more : (x g : ℕ) → once_below x (g + 1) ≡ once_below x g + (if g == x then 1 else 0)
  once_more x g = dite (ℕ_discrete g x)
      (λ e. let a = lt-ltb x (g + 1) (omega arith) in let b = le-ltb x g (omega arith) in let c = eq-eqb g x e in
      ap (λ t. if t then 1 else 0) a ∙ sym (ap (λ t. (if t then 1 else 0) + (if g == x then 1 else 0)) b ∙ ap (λ t. 0 + (if t then 1 else 0)) c))
      (λ ne. dite (dec_lt x g)
      (λ l. let a = lt-ltb x (g + 1) (omega arith) in let b = lt-ltb x g l in let c = ne_eqb g x ne in
      ap (λ t. if t then 1 else 0) a ∙ sym (ap (λ t. (if t then 1 else 0) + (if g == x then 1 else 0)) b ∙ ap (λ t. 1 + (if t then 1 else 0)) c))
      (λ no. let a = le-ltb x (g + 1) (omega arith) in let b = le-ltb x g (omega arith) in let c = ne_eqb g x ne in
      ap (λ t. if t then 1 else 0) a ∙ sym (ap (λ t. (if t then 1 else 0) + (if g == x then 1 else 0)) b ∙ ap (λ t. 0 + (if t then 1 else 0)) c)))

  pub gives_at : (slots id n by count : ℕ) (others : List ℕ) (o : Option C) (seen : List (Turn C)) (beside : Known C) (g : ℕ) (found left : Home C)
      → left.value ≡ found.value → left.given ≡ found.given + 1 → found.given < 64 → count ≡ lines left.value
      → let m : Seated C = (view_at o seen beside (by ∷ others) (InTurn n found) g, (0, Some left) ∷ []) in Allows Rule slots id m 2 (λ _. count) (λ _. Gives m count)
  gives_at slots id n by count others o seen beside g found left same_value given few counted s r _ at _ =
      let v : View C = view_at o seen beside (by ∷ others) (InTurn n found) g in
      let number : ℕ = left.given - 1 in
      let w : View C = view_at o seen nothing (by ∷ number ∷ others) (InTurn n left) left.given in
      let fit = r.each id v at in
      let stands = fit.stands in
      let h : Home C = home_of r.given (value_of r.log) in
      let is : found ≡ h = stands.4 in
      let was : found.given ≡ r.given = ap (λ (k : Home C). k.given) is in
      let now : number ≡ r.given = omega arith in
      let here : left ≡ home_of (r.given + 1) (value_of r.log) = λ i. home_of ((given ∙ ap (λ k. k + 1) was) i) ((same_value ∙ ap (λ (k : Home C). k.value) is) i) in
      let tick = total_set tickets s.views id v w at in
      let queue = r.queue in (
        w,
        keeps,
        tt,
        record {
          log = r.log;
          given = r.given + 1;
          drawn = r.drawn;
          served = r.served;
          turn = Some id;
          holder = λ p t. (w, subst (λ q. get_elem? (set s.views id w) q ≡ some w) (ap place_of t) (set_there s.views id v w at));
          legal = r.legal;
          few = omega arith;
          words_are = ap (λ (ws : List ℕ). set ws 2 count) r.words_are ∙ ap (λ (k : ℕ). r.drawn % 2 ^ 64 ∷ r.served % 2 ^ 64 ∷ k ∷ []) (counted ∙ ap lines (same_value
              ∙ ap (λ (k : Home C). k.value) is));
          homes_are = r.homes_are ∙ ap (λ t. at_home t h ∷ []) stands.0;
          queue = omega arith;
          numbers = (let t = total_set numbers_of s.views id v w at in let k = r.numbers in omega arith);
          once = (λ x. let t = total_set (λ (u : View C). times x u.numbers) s.views id v w at in let k = r.once x in let m = once_more x r.given in
              let z : ◌≡◌ {A = ℕ} (if number == x then 1 else 0) (if r.given == x then 1 else 0) = ap (λ (k : ℕ). if k == x then 1 else 0) now in omega arith);
          unused = λ x l. r.unused x (omega arith);
          apart = apart_kept s.views id v w r.apart at (λ m k. k);
          each = each_set (Fits opening (home_of (r.given + 1) (value_of r.log)) r.log r.drawn r.served (Some id)) s.views id w
              (record {
                opened = fit.opened;
                follows = subst (λ z. Follows (by ∷ number ∷ others) z r.log) (sym stands.5) (follows_all (by ∷ number ∷ others) r.log);
                beside = none_beside r.log;
                within = (λ x l. absurd (omega arith));
                stands = (refl, stands.1, stands.2, omega arith, here, stands.5);
                counted = omega arith;
              })
              (λ q u other at_q. let f = r.each q u at_q in record {
                opened = f.opened;
                follows = f.follows;
                beside = f.beside;
                within = f.within;
                stands = others_turn _ _ _ _ _ _ _ _ _ _ u u.stage (λ t. other_place id q other (sym stands.0 ∙ t)) (other_place id q other) (λ m k l. l) f.stands;
                counted = (let c = f.counted in omega arith);
              });
        },
        (refl, ap (turns_by number) stands.5 ∙ r.unused number (omega arith)),
      )

  apart_last : (views : List (View C)) (w : View C) → ((n : ℕ) → HasTicket n w.stage → ⊥) → Apart views → Apart (views ++ w ∷ [])
  apart_last views w none_has old p q n v u ep eq tv tu = ⊎_elim
      (λ a. ⊎_elim (λ b. old p q n v u a b tv tu) (λ (b : w ≡ u). absurd (none_has n (subst (λ (x : View C). HasTicket n x.stage) (sym b) tu))) (at_snoc views w u q eq))
      (λ (a : w ≡ v). absurd (none_has n (subst (λ (x : View C). HasTicket n x.stage) (sym a) tv)))
      (at_snoc views w v p ep)

  pub splits_at : (id x y : ℕ) (ys : List ℕ) (o : Option C) (seen : List (Turn C)) (beside : Known C) (g : ℕ)
      → let v : View C = view_at o seen beside (x ∷ y ∷ ys) Idle g in Splits Rule id v (left v) (right v)
  splits_at id x y ys o seen beside g s r at =
      let v : View C = view_at o seen beside (x ∷ y ∷ ys) Idle g in
      let w : View C = left v in
      let z : View C = right v in
      let fit = r.each id v at in
      let old : List (View C) = set s.views id w in
      let h : Home C = home_of r.given (value_of r.log) in
      let P = Fits opening h r.log r.drawn r.served r.turn in record {
        log = r.log;
        given = r.given;
        drawn = r.drawn;
        served = r.served;
        turn = r.turn;
        holder = λ p t. let k = r.holder p t in (k.0, at_longer old (z ∷ []) p k.0 (set_else s.views id p w (λ same. fit.stands (t ∙ ap Some same)) ∙ k.1));
        legal = r.legal;
        few = r.few;
        words_are = r.words_are;
        homes_are = r.homes_are;
        queue = (let t = total_set tickets s.views id v w at in let k = r.queue in let l = total_snoc tickets old z in omega arith);
        numbers = (let t = total_set numbers_of s.views id v w at in let k = r.numbers in let l = total_snoc numbers_of old z in omega arith);
        once = (λ n. let t = total_set (λ (u : View C). times n u.numbers) s.views id v w at in let k = r.once n in
            let l = total_snoc (λ (u : View C). times n u.numbers) old z in omega arith);
        unused = r.unused;
        apart = apart_last old z (λ n k. k) (apart_kept s.views id v w r.apart at (λ m k. k));
        each = each_last P old z
            (record {
              opened = fit.opened;
              follows = (fit.follows.0, fit.follows.1, λ n l. fit.follows.2 n (omega arith));
              beside = none_beside r.log;
              within = (λ x l. absurd (omega arith));
              stands = λ t. let k = r.holder (length old) t in let b = at_below s.views (length old) k.0 k.1 in absurd (omega (arith, length-set s.views id w));
              counted = fit.counted;
            })
            (each_set P s.views id w
            (record {
              opened = fit.opened;
              follows = (fit.follows.0, fit.follows.1, λ n l. fit.follows.2 n (omega arith));
              beside = none_beside r.log;
              within = (λ x l. absurd (omega arith));
              stands = fit.stands;
              counted = fit.counted;
            })
            (λ q u other at_q. r.each q u at_q));
      }

  pub joins_at : (id other : ℕ) (o o' : Option C) (seen seen' : List (Turn C)) (beside beside' : Known C) (numbers numbers' : List ℕ) (g g' : ℕ)
      → let v : View C = view_at o seen beside numbers Idle g in let w : View C = view_at o' seen' beside' numbers' Idle g' in Joins Rule id v other w (both v w) spent
  joins_at id other o o' seen seen' beside beside' numbers numbers' g g' s r at apart there =
      let v : View C = view_at o seen beside numbers Idle g in
      let w : View C = view_at o' seen' beside' numbers' Idle g' in
      let b : View C = both v w in
      let at_other : get_elem? s.views other ≡ some w = sym (set_else s.views id other b apart) ∙ there in
      let fit = r.each id v at in
      let gone = r.each other w at_other in
      let mid : List (View C) = set s.views id b in
      let h : Home C = home_of r.given (value_of r.log) in
      let P = Fits opening h r.log r.drawn r.served r.turn in record {
        log = r.log;
        given = r.given;
        drawn = r.drawn;
        served = r.served;
        turn = r.turn;
        holder = λ p t. let k = r.holder p t in (
          k.0,
          set_else mid other p spent (λ same. gone.stands (t ∙ ap Some same)) ∙ (set_else s.views id p b (λ same. fit.stands (t
              ∙ ap Some same)) ∙ k.1),
        );
        legal = r.legal;
        few = r.few;
        words_are = r.words_are;
        homes_are = r.homes_are;
        queue = (let t = total_set tickets s.views id v b at in let k = r.queue in let l = total_set tickets mid other w spent there in omega arith);
        numbers = (let t = total_set numbers_of s.views id v b at in let k = r.numbers in let l = total_set numbers_of mid other w spent there in
            omega (arith, length-append numbers numbers'));
        once = (λ n. let t = total_set (λ (u : View C). times n u.numbers) s.views id v b at in let k = r.once n in
            let l = total_set (λ (u : View C). times n u.numbers) mid other w spent there in let a = times_append n numbers numbers' in omega arith);
        unused = r.unused;
        apart = apart_kept mid other w spent (apart_kept s.views id v b r.apart at (λ m k. k)) there (λ m k. absurd k);
        each = each_set P mid other spent
            (record {
              opened = λ first is. absurd (cc);
              follows = (r.log, refl, λ n l. absurd (omega arith));
              beside = none_beside r.log;
              within = (λ x l. absurd (omega arith));
              stands = gone.stands;
              counted = omega arith;
            })
            (λ q u ne at_q. each_set P s.views id b
            (record {
              opened = fit.opened;
              follows = follows_both numbers numbers' seen seen' r.log fit.follows gone.follows;
              beside = follows_shorter v w r.log fit.follows gone.follows;
              within = within_both v w;
              stands = fit.stands;
              counted = greater_if (nat_le g g') g g' r.given fit.counted gone.counted;
            })
            (λ p y _ at_p. r.each p y at_p) q u at_q);
      }

  pub meets_at : (slots id : ℕ) (me : Seated C) → Allows Rule slots id me 0 (λ k. k) (Meets me)
  meets_at slots id me s r _ at _ =
      let fit = r.each id me.0 at in (
        me.0,
        keeps,
        tt,
        subst (λ (z : List ℕ × List (View C)). Rule record {
          words = z.0;
          homes = s.homes;
          views = z.1;
        }) (λ i. (sym (set-get_or s.words 0 0) i, sym (set_again s.views id me.0 at) i)) r,
        (
          refl,
          comparable me.0.beside.numbers me.0.beside.seen me.0.seen r.log fit.beside (fit.follows.0, fit.follows.1),
          (let one = total_one numbers_of s.views id me.0 at in let all = r.numbers in let few = r.few in omega arith),
          λ x. let one = total_one (λ (u : View C). times x u.numbers) s.views id me.0 at in let k = r.once x in let most = unit_most (nat_lt x r.given) in omega arith,
        ),
      )

  abbrev get_opening : Option C → C
  get_opening None = opening
  get_opening (Some o) = o

  pub begins : (n : ℕ) → n ≡ lines opening → Rule record { words = 0 ∷ 0 ∷ n ∷ []; homes = some (Some (home_of 1 opening)) ∷ []; views = first_view opening ∷ [] }
  begins n counted = record {
    log = [];
    given = 1;
    drawn = 0;
    served = 0;
    turn = None;
    holder = λ p t. absurd (cc);
    legal = tt;
    few = omega arith;
    words_are = ap (λ (k : ℕ). 0 ∷ 0 ∷ k ∷ []) counted;
    homes_are = refl;
    queue = refl;
    numbers = refl;
    once = λ x. first_once x;
    unused = λ x l. refl;
    apart = λ p q k v w ep eq tv tw. absurd (no_ticket p v ep k tv);
    each = one;
  }
    where
      first_once : (x : ℕ) → total (λ (v : View C). times x v.numbers) (first_view opening ∷ []) ≡ once_below x 1
      first_once x = let m : once_below x 1 ≡ once_below x 0 + (if 0 == x then 1 else 0) = once_more x 0 in
          let z : once_below x 0 ≡ 0 = ap (λ t. if t then 1 else 0) (le-ltb x 0 (omega arith)) in omega arith

      no_ticket : (p : ℕ) (v : View C) → get_elem? (first_view opening ∷ []) p ≡ some v → (k : ℕ) → HasTicket k v.stage → ⊥
      no_ticket zero v e k t = subst (λ (u : View C). HasTicket k u.stage) (sym (some-injective _ _ e)) t
      no_ticket (suc p) v e k t = absurd (some-ne-none v (sym e))

      one : (p : ℕ) (v : View C) → get_elem? (first_view opening ∷ []) p ≡ some v → Fits opening (home_of 1 opening) [] 0 0 None p v
      one zero v e = subst (Fits opening (home_of 1 opening) [] 0 0 None 0) (some-injective _ _ e) (record {
        opened = λ o is. sym (ap (λ (z : Option C). get_opening z) is);
        follows = ([], refl, λ x l. refl);
        beside = none_beside [];
        within = (λ x l. absurd (omega arith));
        stands = λ t. absurd (cc);
        counted = omega arith;
      })
      one (suc p) v e = absurd (some-ne-none v (sym e))

  -- ---- the same at passes that are known so far

  pub looks : (slots id : ℕ) (me : Seated C) (n : ℕ) → me.0.stage ≡ Waits n → me.1 ≡ [] → Allows Rule slots id me 1 (λ k. k) (Looks makes me)
  looks slots id me n waits none_out =
      subst (λ (m : Seated C). Allows Rule slots id m 1 (λ k. k) (Looks makes m))
      (λ i. (view_at me.0.opening me.0.seen me.0.beside me.0.numbers (sym waits i) me.0.given, sym none_out i))
      (looks_at slots id n me.0.opening me.0.seen me.0.beside me.0.numbers me.0.given)

  pub posts : (slots id n by count : ℕ) (others : List ℕ) (found left : Home C) (me : Seated C) → me.0.stage ≡ InTurn n found → me.0.numbers ≡ by ∷ others
      → me.1 ≡ (0, Some left) ∷ []
      → makes by found.value left.value → left.given ≡ found.given → count ≡ lines left.value → Allows Rule slots id me 2 (λ _. count) (λ _. Posts me count)
  posts slots id n by count others found left me stage numbers out made given counted =
      subst (λ (m : Seated C). Allows Rule slots id m 2 (λ _. count) (λ _. Posts m count)) (λ i. (
        view_at me.0.opening me.0.seen me.0.beside (sym numbers i)
            (sym stage i) me.0.given,
        sym out i,
      ))
      (posts_at slots id n by count others me.0.opening me.0.seen me.0.beside me.0.given found left made given counted)

  pub gives_number : (slots id n by count : ℕ) (others : List ℕ) (found left : Home C) (me : Seated C) → me.0.stage ≡ InTurn n found → me.0.numbers ≡ by ∷ others
      → me.1 ≡ (0, Some left) ∷ []
      → left.value ≡ found.value → left.given ≡ found.given + 1 → found.given < 64 → count ≡ lines left.value → Allows Rule slots id me 2 (λ _. count) (λ _. Gives me count)
  gives_number slots id n by count others found left me stage numbers out same given few counted =
      subst (λ (m : Seated C). Allows Rule slots id m 2 (λ _. count) (λ _. Gives m count)) (λ i. (
        view_at me.0.opening me.0.seen me.0.beside (sym numbers i)
            (sym stage i) me.0.given,
        sym out i,
      ))
      (gives_at slots id n by count others me.0.opening me.0.seen me.0.beside me.0.given found left same given few counted)

  pub passes : (slots id n : ℕ) (found : Home C) (me : Seated C) → me.0.stage ≡ InTurn n found → me.1 ≡ (0, Some found) ∷ []
      → Allows Rule slots id me 1 (λ k. (k + 1) % 2 ^ 64) (PassesOn me)
  passes slots id n found me stage out =
      subst (λ (m : Seated C). Allows Rule slots id m 1 (λ k. (k + 1) % 2 ^ 64) (PassesOn m)) (λ i. (
        view_at me.0.opening me.0.seen me.0.beside me.0.numbers
            (sym stage i) me.0.given,
        sym out i,
      ))
      (passes_at slots id n me.0.opening me.0.seen me.0.beside me.0.numbers me.0.given found)

  pub splits : (id x y : ℕ) (ys : List ℕ) (v : View C) → v.stage ≡ Idle → v.numbers ≡ x ∷ y ∷ ys → Splits Rule id v (left v) (right v)
  splits id x y ys v stage numbers =
      subst (λ (u : View C). Splits Rule id u (left u) (right u)) (λ i. view_at v.opening v.seen v.beside (sym numbers i) (sym stage i) v.given)
      (splits_at id x y ys v.opening v.seen v.beside v.given)

  pub joins : (id other : ℕ) (v w : View C) → v.stage ≡ Idle → w.stage ≡ Idle → Joins Rule id v other w (both v w) spent
  joins id other v w here there =
      subst (λ (u : View C × View C). Joins Rule id u.0 other u.1 (both u.0 u.1) spent)
      (λ i. (view_at v.opening v.seen v.beside v.numbers (sym here i) v.given, view_at w.opening w.seen w.beside w.numbers (sym there i) w.given))
      (joins_at id other v.opening w.opening v.seen w.seen v.beside w.beside v.numbers w.numbers v.given w.given)
