-- What is so of the faults of the format cell and of the selectors, whatever the disk.
use Rattle.journal_cells.proofs.Prelude.{◌≡◌, ◌≢◌, inl, inr, ℕ, Bool, true, false, List, Option, None, Some, Result, Ok, Err, refl, subst, eq-eqb, codes, w32, bytes_eq, bytes_eq-Decides, sha256, byte_at, checked, ◌>>=◌, number_at, EachFault, checked_err, both_true, unequal, FORMAT_GATE, SELECTOR_GATE, VERSION, SelectorValue, selector_at, CellFault, Damaged, Selection, IsFormatBreak, IsSelectorBreak, format_checks, selector_checks, selector_value, chosen}
use Rattle.std.specs.Prelude.{◌==◌, ◌&&◌, if◌then◌else◌}
use Rattle.base_model.specs.Bytes.{range}
use Rattle.base_model.proofs.Checks.{step_err, err_is}
use Rattle.disk_format.specs.declared.why.Why.TheVariants.{Field}
use Rattle.journal_cells.specs.Faults.{IsSelectorPlace}
use Rattle.journal_cells.specs.Heads.{format_in, selector_in, selectors_in}
use Rattle.journal_cells.proofs.Outcomes.{IsOfBytes}

unlike : (n : ℕ) → (n == VERSION) ≡ false → n ≢ VERSION
unlike n other same = absurd (cc (other, eq-eqb n VERSION same))

not_store : (cell : List ℕ) → (byte_at 0 cell == FORMAT_GATE && bytes_eq (range 1 7 cell) (codes "DDFSIMG")) ≡ false → byte_at 0 cell ≡ FORMAT_GATE →
    range 1 7 cell ≢ codes "DDFSIMG"
not_store cell other gate magic =
    absurd (cc (
      other,
      both_true (byte_at 0 cell == FORMAT_GATE) (bytes_eq (range 1 7 cell) (codes "DDFSIMG")) (eq-eqb (byte_at 0 cell) FORMAT_GATE gate)
          ((bytes_eq-Decides (range 1 7 cell) (codes "DDFSIMG")).1 magic),
    ))

pub format_break : (cell : List ℕ) (f : CellFault) → format_in cell ≡ Err f → IsFormatBreak f
unfolding format_in
format_break cell f e = checked_err IsFormatBreak (format_checks cell) (number_at w32 12 cell) f (
  λ h. not_store cell h,
  (
    λ h. (refl, unequal (range 480 32 cell) (sha256 (range 1 479 cell)) h),
    (λ h. unlike (number_at w32 8 cell) h, (λ h. (refl, tt), (λ h. (refl, tt), tt))),
  ),
) e

pub format_of_bytes : IsOfBytes IsFormatBreak
format_of_bytes = record { memory = λ is. is; read = λ is. is; write = λ is. is; numbers = λ is. is }

-- ---- selectors

pub selector_of_bytes : IsOfBytes IsSelectorBreak
selector_of_bytes = record { memory = λ is. is; read = λ is. is; write = λ is. is; numbers = λ is. is }

each_selector : (half : ℕ) (before : Option SelectorValue) (cell : List ℕ) → IsSelectorPlace (selector_at half) → EachFault IsSelectorBreak (selector_checks half before cell)
each_selector half before cell place = (
  λ h. (place, tt),
  (
    λ h. (place, unequal (range 480 32 cell) (sha256 (range 1 479 cell)) h),
    (λ h. unlike (number_at w32 16 cell) h, (λ h. (place, tt), (λ h. (place, tt), (λ h. (place, tt), tt)))),
  ),
)

open_err : (b : Bool) (r : Result (Option SelectorValue) CellFault) (f : CellFault) → (if b then r else Ok None) ≡ Err f → r ≡ Err f
open_err true r f e = e
open_err false r f e = absurd cc

selector_break : (half : ℕ) (before : Option SelectorValue) (cell : List ℕ) (f : CellFault) → IsSelectorPlace (selector_at half) → selector_in half before cell ≡ Err f →
    IsSelectorBreak f
unfolding selector_in
selector_break half before cell f place e =
    checked_err IsSelectorBreak (selector_checks half before cell) (Some (selector_value cell)) f (each_selector half before cell place)
    (open_err (byte_at 0 cell == SELECTOR_GATE) (checked (selector_checks half before cell) (Some (selector_value cell))) f e)

chosen_break : (gate : ℕ) (a b : Option SelectorValue) (f : CellFault) → chosen gate a b ≡ Err f → IsSelectorBreak f
chosen_break gate None None f e = subst IsSelectorBreak (err_is {A = Selection} (Damaged (selector_at 0) (Field 0 gate)) f e) (inl refl, tt)
chosen_break gate (Some s) None f e = absurd cc
chosen_break gate None (Some t) f e = absurd cc
chosen_break gate (Some s) (Some t) f e = absurd cc

pub selectors_break : (first second : List ℕ) (f : CellFault) → selectors_in first second ≡ Err f → IsSelectorBreak f
unfolding selectors_in
selectors_break first second f e =
    step_err IsSelectorBreak (selector_in 0 None first) (λ (a : Option SelectorValue). selector_in 1 a second >>= (λ (b : Option SelectorValue). chosen (byte_at 0 first) a b)) f
    (selector_break 0 None first f (inl refl)) (λ a is rest.
    step_err IsSelectorBreak (selector_in 1 a second) (λ (b : Option SelectorValue). chosen (byte_at 0 first) a b) f (selector_break 1 a second f (inr refl))
    (λ b there last. chosen_break (byte_at 0 first) a b f last) rest) e
