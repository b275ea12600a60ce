-- How the image of a stop is made.
use Rattle.std.proofs.Common.{◌≡◌, ◌⊎◌, inl, inr, ℕ, ◌+◌, ◌-◌, ◌≤◌, Bool, true, false, cond, List, [], ◌∷◌, ◌++◌, length, take, drop, refl, sym, ◌∙◌, ap, subst, arith, append_assoc, length-drop, take-append-drop}
use Rattle.std.proofs.lemmas.List.{append-nil, drop-drop, length-replicate, length-take-le}
use Rattle.std.proofs.lemmas.Bool.{leb-true, ltb-true}
use Rattle.base_model.specs.Bytes.{range, written}
use Rattle.base_model.proofs.Ranges.{length-range}
use Rattle.dd_disk.specs.Writes.{Torn}
use Rattle.dd_disk.specs.Calls.{shown_length, end_of, shown_by, images_by, shown_after, images_after, images_before, images_of, images_past, IsPast, left_out, is_left_out, filled, filled_by, filled_after, reached, stop_image}
use Rattle.dd_disk.specs.Stops.{filled_write, EndsSynced}
use Rattle.dd_disk.specs.declared.call.Call.{Call}
use Rattle.dd_disk.specs.declared.call.Fill.{Fill}
use Rattle.dd_disk.specs.declared.call.Fill.TheVariants.{Old, New, Byte}
use Rattle.dd_disk.specs.declared.call.Asked.{Asked}
use Rattle.dd_disk.specs.declared.call.Asked.TheVariants.{Read, Write, Sync}
use Rattle.dd_disk.proofs.Images.{torn_length}
use Rattle.dd_disk.proofs.Noting.{before_at}

-- ---- the calls that are let through

stopped : (b : Bool) (call : Call) (rest : List Call) → b ≡ true → cond b [] (call ∷ rest) ≡ []
stopped true call rest is = refl
stopped false call rest is = absurd cc

passed : (b : Bool) (call : Call) (rest : List Call) → b ≡ false → cond b [] (call ∷ rest) ≡ call ∷ rest
passed true call rest is = absurd cc
passed false call rest is = refl

-- up to some place, none was left out
abbrev pub Passes : ℕ → List Call → ℕ → Type 0
Passes stop calls i = reached stop calls ≡ take i calls ++ reached stop (drop i calls)

-- ---- the last sync

shown-push : (last : Call) (calls : List Call) (shown : List ℕ) → shown_after shown (calls ++ last ∷ []) ≡ shown_by last.asked (shown_after shown calls)
shown-push last [] shown = refl
shown-push last (call ∷ calls) shown = shown-push last calls (shown_by call.asked shown)

pub filled-append : (fill : Fill) (xs ys : List Call) (shown image : List ℕ) → filled_after fill (xs ++ ys) shown image ≡ filled_after fill ys (shown_after shown xs)
    (filled_after fill xs shown image)
filled-append fill [] ys shown image = refl
filled-append fill (call ∷ xs) ys shown image = filled-append fill xs ys _ _

filled_sync : (fill : Fill) (asked : Asked) (done : Bool) (shown image : List ℕ) → done ≡ true → asked ≡ Sync → filled_by fill asked done shown image ≡ shown
filled_sync fill (Read at count) done shown image is sync = absurd cc
filled_sync fill (Write at bytes) done shown image is sync = absurd cc
filled_sync fill Sync true shown image is sync = refl
filled_sync fill Sync false shown image is sync = absurd cc

shown_sync : (asked : Asked) (shown : List ℕ) → asked ≡ Sync → shown_by asked shown ≡ shown
shown_sync (Read at count) shown sync = refl
shown_sync (Write at bytes) shown sync = absurd cc
shown_sync Sync shown sync = refl

-- after a sync that was done, or at the start, what is left is what reads give
pub filled_synced : (fill : Fill) (calls : List Call) (first : List ℕ) → EndsSynced calls → filled_after fill calls first first ≡ shown_after first calls
filled_synced fill calls first (inl none) = ap (λ (l : List Call). filled_after fill l first first) none ∙ ap (λ (l : List Call). shown_after first l) (sym none)
filled_synced fill calls first (inr ends) =
    let before = ends.0 in
    let last = ends.1.0 in
    let is : calls ≡ before ++ last ∷ [] = ends.1.1 in
    ap (λ (l : List Call). filled_after fill l first first) is
    ∙ filled-append fill before (last ∷ []) first first
    ∙ filled_sync fill last.asked last.done (shown_after first before) (filled_after fill before first first) ends.1.2 ends.1.3
    ∙ sym (shown_sync last.asked (shown_after first before) ends.1.3)
    ∙ sym (shown-push last before first)
    ∙ ap (λ (l : List Call). shown_after first l) (sym is)

-- ---- it is an image that a crash might have left

length_filled : (fill : Fill) (old new : List ℕ) → length old ≡ length new → length (filled fill old new) ≡ length new
length_filled Old old new same = same
length_filled New old new same = refl
length_filled (Byte byte) old new same = length-replicate (length new) byte

-- of one image before it, an image after it
abbrev image_by : Asked → Bool → List ℕ → List ℕ → List ℕ → Type 0
image_by (Read at count) done shown d c = c ≡ d
image_by (Write at bytes) done shown d c = Torn at (length bytes.items) d c
image_by Sync true shown d c = c ≡ shown
image_by Sync false shown d c = c ≡ d

filled_torn : (fill : Fill) (at : ℕ) (bytes image : List ℕ) → at + length bytes ≤ length image → Torn at (length bytes) image (filled_write fill at bytes image)
filled_torn fill at bytes image fits = record {
  bytes = filled fill (range at (length bytes) image) bytes;
  count = length_filled fill (range at (length bytes) image) bytes (length-range at (length bytes) image fits);
  holds = refl;
}

fills : (fill : Fill) (asked : Asked) (done : Bool) (shown image : List ℕ) → end_of asked ≤ length image → image_by asked done shown image (filled_by fill asked done shown image)
fills fill (Read at count) done shown image fits = refl
fills fill (Write at bytes) done shown image fits = filled_torn fill at bytes.items image fits
fills fill Sync true shown image fits = refl
fills fill Sync false shown image fits = refl

image_goes : (asked : Asked) (done : Bool) (shown : List ℕ) (images : List ℕ → Type 0) (d c : List ℕ) → images d → image_by asked done shown d c →
    images_by asked done shown images c
image_goes (Read at count) done shown images d c was is = subst images (sym is) was
image_goes (Write at bytes) done shown images d c was is = (d, was, is)
image_goes Sync true shown images d c was is = is
image_goes Sync false shown images d c was is = subst images (sym is) was

image_keeps : (asked : Asked) (done : Bool) (shown d c : List ℕ) → length shown ≡ length d → end_of asked ≤ length d → image_by asked done shown d c → length c ≡ length d
image_keeps (Read at count) done shown d c long fits is = ap length is
image_keeps (Write at bytes) done shown d c long fits is = torn_length at (length bytes.items) d c fits is
image_keeps Sync true shown d c long fits is = ap length is ∙ long
image_keeps Sync false shown d c long fits is = ap length is

filled_left : (fill : Fill) (calls : List Call) (size count : ℕ) (shown image : List ℕ) (images : List ℕ → Type 0) → IsPast size count calls → length shown ≡ size →
    length image ≡ size → images image
    → images_after shown images calls (filled_after fill calls shown image)
filled_left fill [] size count shown image images past long same was = was
filled_left fill (call ∷ calls) size count shown image images past long same was =
    let fits : end_of call.asked ≤ length image = omega (arith, past.1.0, same) in
    let goes = fills fill call.asked call.done shown image fits in
    filled_left fill calls size count (shown_by call.asked shown) (filled_by fill call.asked call.done shown image) (images_by call.asked call.done shown images) past.1.1
    (shown_length call.asked shown (omega (arith, past.1.0, long)) ∙ long)
    (image_keeps call.asked call.done shown image _ (long ∙ sym same) fits goes ∙ same)
    (image_goes call.asked call.done shown images image _ was goes)

-- a call that is left out has the number of the stop, or a later one
out_later : (stop number : ℕ) (asked : Asked) → left_out stop number asked ≡ true → stop ≤ number
out_later stop number (Read at count) out = leb-true stop number out
out_later stop number (Write at bytes) out = omega (arith, ltb-true stop number out)
out_later stop number Sync out = leb-true stop number out

-- what is not let through begins with a call of the stop's number or a later one
pub record LeavesOut (stop : ℕ) (calls : List Call) : Type 0 where
  pub rest : List Call
  pub split : reached stop calls ++ rest ≡ calls
  pub later : (rest ≡ []) ⊎ ((call : Call) × ((after : List Call) × (rest ≡ call ∷ after) × (stop ≤ call.number)))

leaves_cons : (stop : ℕ) (call : Call) (calls : List Call) (b : Bool) → is_left_out stop call ≡ b → LeavesOut stop calls → LeavesOut stop (call ∷ calls)
leaves_cons stop call calls true out so_far = record {
  rest = call ∷ calls;
  split = ap (λ (l : List Call). l ++ call ∷ calls) (stopped (is_left_out stop call) call (reached stop calls) out);
  later = inr (call, (calls, refl, out_later stop call.number call.asked out));
}
leaves_cons stop call calls false goes so_far = record {
  rest = so_far.rest;
  split = ap (λ (l : List Call). l ++ so_far.rest) (passed (is_left_out stop call) call (reached stop calls) goes) ∙ ap (λ (l : List Call). call ∷ l) so_far.split;
  later = so_far.later;
}

leaves_out : (stop : ℕ) (calls : List Call) → LeavesOut stop calls
leaves_out stop [] = record { rest = []; split = refl; later = inl refl }
leaves_out stop (call ∷ calls) = leaves_cons stop call calls (is_left_out stop call) refl (leaves_out stop calls)

past_cond : (b : Bool) (call : Call) (rest : List Call) (size count : ℕ) → call.number ≤ count → end_of call.asked ≤ size → IsPast size count rest →
    IsPast size count (cond b [] (call ∷ rest))
past_cond true call rest size count number fits past = tt
past_cond false call rest size count number fits past = (number, (fits, past))

past_passed : (stop : ℕ) (calls : List Call) (size count : ℕ) → IsPast size count calls → IsPast size count (reached stop calls)
past_passed stop [] size count past = tt
past_passed stop (call ∷ calls) size count past = past_cond (is_left_out stop call) call (reached stop calls) size count past.0 past.1.0
    (past_passed stop calls size count past.1.1)

module _ (first : List ℕ) (calls : List Call) (stop count : ℕ) (fill : Fill) (past : IsPast (length first) count calls) where
  pub past_reached : IsPast (length first) count (reached stop calls)
  past_reached = past_passed stop calls (length first) count past

  left : images_of first (reached stop calls) (stop_image first calls stop fill)
  left = filled_left fill (reached stop calls) (length first) count first first (λ d. d ≡ first) past_reached refl refl refl

  -- the image of a stop is one that a crash might have left
  pub stop_left : 1 ≤ stop → images_past first calls (stop - 1) (stop_image first calls stop fill)
  stop_left some = found (leaves_out stop calls)
    where
      found : LeavesOut stop calls → images_past first calls (stop - 1) (stop_image first calls stop fill)
      found parts = elim parts.later [
        | inl none ↦
            let whole : reached stop calls ≡ calls = sym (append-nil (reached stop calls)) ∙ ap (λ (l : List Call). reached stop calls ++ l) (sym none) ∙ parts.split in
            inl (subst (λ (l : List Call). images_of first l (stop_image first calls stop fill)) whole left)
        | inr next ↦
            let is : reached stop calls ++ next.0 ∷ next.1.0 ≡ calls = ap (λ (l : List Call). reached stop calls ++ l) (sym next.1.1) ∙ parts.split in
            inr (subst (λ (l : List Call). images_before first (λ d. d ≡ first) l (stop - 1) (stop_image first calls stop fill)) is
            (before_at next.0 (reached stop calls) next.1.0 first (λ d. d ≡ first) (stop - 1) (stop_image first calls stop fill) (omega (arith, some, next.1.2)) left))
      ]

-- ---- the loop over what was not synced

-- made again up to some place, on what reads give and on one image
pub record Filled (fill : Fill) (first : List ℕ) (calls after : List Call) (shown image : List ℕ) : Type 0 where
  pub leaves : filled_after fill after shown image ≡ filled_after fill calls first first
  pub count : ℕ
  pub past : IsPast (length first) count after
  pub shown_size : length shown ≡ length first
  pub image_size : length image ≡ length first

shown_sizes : (calls : List Call) (size count : ℕ) (shown : List ℕ) → IsPast size count calls → length shown ≡ size → length (shown_after shown calls) ≡ size
shown_sizes [] size count shown past long = long
shown_sizes (call ∷ calls) size count shown past long = shown_sizes calls size count (shown_by call.asked shown) past.1.1
    (shown_length call.asked shown (omega (arith, past.1.0, long)) ∙ long)

past_split : (calls after : List Call) (size count : ℕ) → IsPast size count (calls ++ after) → IsPast size count calls × IsPast size count after
past_split [] after size count past = (tt, past)
past_split (call ∷ calls) after size count past =
    let rest = past_split calls after size count past.1.1 in
    ((past.0, (past.1.0, rest.0)), rest.1)

pub filled_begins : (fill : Fill) (first : List ℕ) (calls before after : List Call) (shown image : List ℕ) (count : ℕ) → IsPast (length first) count calls →
    before ++ after ≡ calls → EndsSynced before
    → shown ≡ shown_after first before → image ≡ shown → Filled fill first calls after shown image
filled_begins fill first calls before after shown image count past split ends shows same =
    let parts = past_split before after (length first) count (subst (λ (l : List Call). IsPast (length first) count l) (sym split) past) in
    let size = ap length shows ∙ shown_sizes before (length first) count first parts.0 refl in
    record {
      leaves =
          ap (λ (s : List ℕ). filled_after fill after s image) shows
          ∙ ap (λ (i : List ℕ). filled_after fill after (shown_after first before) i) (same ∙ shows ∙ sym (filled_synced fill before first ends))
          ∙ sym (filled-append fill before after first first)
          ∙ ap (λ (l : List Call). filled_after fill l first first) split;
      count = count;
      past = parts.1;
      shown_size = size;
      image_size = ap length same ∙ size;
    }

pub filled_on : (fill : Fill) (first : List ℕ) (calls rest after : List Call) (call : Call) (shown image shown' image' : List ℕ) → rest ≡ call ∷ after →
    Filled fill first calls rest shown image
    → shown' ≡ shown_by call.asked shown → image' ≡ filled_by fill call.asked call.done shown image → Filled fill first calls after shown' image'
filled_on fill first calls rest after call shown image shown' image' is so_far shows fills_in =
    let past = subst (λ (l : List Call). IsPast (length first) so_far.count l) is so_far.past in
    let fits : end_of call.asked ≤ length image = omega (arith, past.1.0, so_far.image_size) in
    record {
      leaves =
          ap (λ (s : List ℕ). filled_after fill after s image') shows
          ∙ ap (λ (i : List ℕ). filled_after fill after (shown_by call.asked shown) i) fills_in
          ∙ ap (λ (l : List Call). filled_after fill l shown image) (sym is)
          ∙ so_far.leaves;
      count = so_far.count;
      past = past.1.1;
      shown_size = ap length shows ∙ shown_length call.asked shown (omega (arith, past.1.0, so_far.shown_size)) ∙ so_far.shown_size;
      image_size = ap length fills_in ∙ image_keeps call.asked call.done shown image _ (so_far.shown_size ∙ sym so_far.image_size) fits
          (fills fill call.asked call.done shown image fits) ∙ so_far.image_size;
    }

-- where the old bytes stay the image stays
pub written-range : (at n : ℕ) (image : List ℕ) → at + n ≤ length image → written at (range at n image) image ≡ image
unfolding written range
written-range at n image fits =
    let long : length (take n (drop at image)) ≡ n = length-take-le n (drop at image) (omega (arith, length-drop at image)) in
    ap (λ (k : ℕ). take at image ++ take n (drop at image) ++ drop (at + k) image) long
    ∙ append_assoc (take at image) (take n (drop at image)) (drop (at + n) image)
    ∙ ap (λ (l : List ℕ). take at image ++ (take n (drop at image) ++ l)) (sym (drop-drop n at image))
    ∙ ap (λ (l : List ℕ). take at image ++ l) (take-append-drop n (drop at image))
    ∙ take-append-drop at image

pub fill_old : (fill : Fill) (at : ℕ) (bytes image : List ℕ) → at + length bytes ≤ length image → fill ≡ Old → image ≡ filled_write fill at bytes image
fill_old fill at bytes image fits is = sym (ap (λ (f : Fill). filled_write f at bytes image) is ∙ written-range at (length bytes) image fits)
