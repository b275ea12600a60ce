use Rattle.std.proofs.Common.{◌≡◌, length, refl, sym, ◌∙◌, ap, subst, arith}
use Rattle.base_model.specs.Bytes.{written}
use Rattle.dd_disk.specs.Writes.{Torn}
use Rattle.dd_disk.specs.Calls.{first_of, images_of}
use Rattle.dd_disk.proofs.Memories.{CrashSteps}
use Rattle.dd_disk.proofs.Images.{torn_same}
use Rattle.dd_disk.proofs.Memories.{no_fewer, view_later, view_leaves}
use Rattle.dd_disk.proofs.Noting.{stands, missed_stands, missed_follows, missed_time, made_stands, made_images, made_leaves, made_time}
use Rattle.dd_disk.proofs.mem.MemDiskDisk.write.Goals as goal

pub invariant_of-self : goal.invariant_of-self
invariant_of-self c =
    let after = missed_stands _ _ _ _ (stands c.args.self.now) _ c.keep.ensures.same _ _ (c.miss.ensures.time, ap (λ l. l.items) c.miss.ensures.calls) in
    record { replayed = after.replayed; past = after.past }

pub invariant_of-self-in-Missed : goal.invariant_of-self-in-Missed
invariant_of-self-in-Missed c =
    let after = missed_stands _ _ _ _ (stands c.args.self.now) _ c.keep.ensures.same _ _ c.in-Missed.ensures.noted in
    record { replayed = after.replayed; past = after.past }

pub invariant_of-self-in-Done : goal.invariant_of-self-in-Done
invariant_of-self-in-Done c =
    let same : c.in-Ok.copy.items ≡ c.args.from.now = c.in-Ok.ensures.copy in
    let shows = c.put.ensures.written ∙ ap (λ b. written c.args.at b c.args.self.now.bytes.items) (sym same) in
    let after = made_stands _ _ _ _ (stands c.args.self.now) _ (c.in-Ok.ensures.kept c.put.new.bytes.items) _ _ _ _ c.in-Done.ensures.noted _ shows
    (omega (arith, c.requires, ap length same)) in
    record { replayed = after.replayed; past = after.past }

pub invariant_of-self-in-Failed : goal.invariant_of-self-in-Failed
invariant_of-self-in-Failed c =
    let same : c.in-Ok.copy.items ≡ c.args.from.now = c.in-Ok.ensures.copy in
    let shows = c.put-in-Failed.ensures.written ∙ ap (λ b. written c.args.at b c.args.self.now.bytes.items) (sym same) in
    let after = made_stands _ _ _ _ (stands c.args.self.now) _ (c.in-Ok.ensures.kept c.put-in-Failed.new.bytes.items) _ _ _ _ c.in-Failed.ensures.noted _ shows
    (omega (arith, c.requires, ap length same)) in
    record { replayed = after.replayed; past = after.past }

pub returns-in_default-clause-leaves : goal.returns-in_default-clause-leaves
returns-in_default-clause-leaves c =
    view_leaves (Torn c.args.at (length c.args.from.now)) _ _
    (missed_follows _ _ _ _ (stands c.args.self.now) _ c.keep.ensures.same _ c.miss.new.self.count _ _ c.requires (ap (λ l. l.items) c.miss.ensures.calls))
    (missed_time _ _ _ _ (stands c.args.self.now) _ c.keep.ensures.same _ _ (c.miss.ensures.time, ap (λ l. l.items) c.miss.ensures.calls))

pub returns-in_default-clause-later : goal.returns-in_default-clause-later
returns-in_default-clause-later c = view_later _ _ refl refl c.miss.ensures.faults.0 (λ t at bytes before read. read) (λ bytes known. (_, refl, tt))
    (missed_time _ _ _ _ (stands c.args.self.now) _ c.keep.ensures.same _ _ (c.miss.ensures.time, ap (λ l. l.items) c.miss.ensures.calls))

pub returns-in-Done-clause-leaves : goal.returns-in-Done-clause-leaves
returns-in-Done-clause-leaves c =
    let d = c.args.self.now in
    let same : c.in-Ok.copy.items ≡ c.args.from.now = c.in-Ok.ensures.copy in
    view_leaves (Torn c.args.at (length c.args.from.now)) _ _
    (subst (λ n. CrashSteps (Torn c.args.at n) (images_of (first_of d.first d.bytes.items) d.log.calls.items)
    (images_of (first_of c.keep.new.first c.put.new.bytes.items) c.note.new.self.calls.items)) (ap length same)
    (made_images _ _ _ _ (stands d) _ (c.in-Ok.ensures.kept c.put.new.bytes.items) _ _ _ _ c.in-Done.ensures.noted))
    (made_time _ _ _ _ (stands c.args.self.now) _ (c.in-Ok.ensures.kept c.put.new.bytes.items) _ _ _ _ c.in-Done.ensures.noted)

pub returns-in-Done-clause-later : goal.returns-in-Done-clause-later
returns-in-Done-clause-later c = view_later _ _ c.put.ensures.length refl (no_fewer _ _ c.in-Done.ensures.faults) (λ t at bytes before read. read) (λ bytes known. (_, refl, tt))
    (made_time _ _ _ _ (stands c.args.self.now) _ (c.in-Ok.ensures.kept c.put.new.bytes.items) _ _ _ _ c.in-Done.ensures.noted)

pub returns-in-Failed-clause-leaves : goal.returns-in-Failed-clause-leaves
returns-in-Failed-clause-leaves c =
    let d = c.args.self.now in
    let same : c.in-Ok.copy.items ≡ c.args.from.now = c.in-Ok.ensures.copy in
    view_leaves (Torn c.args.at (length c.args.from.now)) _ _
    (subst (λ n. CrashSteps (Torn c.args.at n) (images_of (first_of d.first d.bytes.items) d.log.calls.items)
    (images_of (first_of c.keep.new.first c.put-in-Failed.new.bytes.items) c.note.new.self.calls.items)) (ap length same)
    (made_images _ _ _ _ (stands d) _ (c.in-Ok.ensures.kept c.put-in-Failed.new.bytes.items) _ _ _ _ c.in-Failed.ensures.noted))
    (made_time _ _ _ _ (stands c.args.self.now) _ (c.in-Ok.ensures.kept c.put-in-Failed.new.bytes.items) _ _ _ _ c.in-Failed.ensures.noted)

pub returns-in-Failed-clause-later : goal.returns-in-Failed-clause-later
returns-in-Failed-clause-later c = view_later _ _ c.put-in-Failed.ensures.length refl c.in-Failed.ensures.faults.0 (λ t at bytes before read. read) (λ bytes known. (_, refl, tt))
    (made_time _ _ _ _ (stands c.args.self.now) _ (c.in-Ok.ensures.kept c.put-in-Failed.new.bytes.items) _ _ _ _ c.in-Failed.ensures.noted)

pub returns-in-Missed-clause-leaves : goal.returns-in-Missed-clause-leaves
returns-in-Missed-clause-leaves c =
    view_leaves (Torn c.args.at (length c.args.from.now)) _ _
    (missed_follows _ _ _ _ (stands c.args.self.now) _ c.keep.ensures.same _ c.note.new.self.count _ _ c.requires c.in-Missed.ensures.noted.1)
    (missed_time _ _ _ _ (stands c.args.self.now) _ c.keep.ensures.same _ _ c.in-Missed.ensures.noted)

pub returns-in-Missed-clause-later : goal.returns-in-Missed-clause-later
returns-in-Missed-clause-later c = view_later _ _ refl refl c.in-Missed.ensures.faults.0 (λ t at bytes before read. read) (λ bytes known. (_, refl, tt))
    (missed_time _ _ _ _ (stands c.args.self.now) _ c.keep.ensures.same _ _ c.in-Missed.ensures.noted)

pub returns-in_default-clause-torn : goal.returns-in_default-clause-torn
returns-in_default-clause-torn c = torn_same _ _ _ c.requires

pub returns-in-Missed-clause-torn : goal.returns-in-Missed-clause-torn
returns-in-Missed-clause-torn c = torn_same _ _ _ c.requires

pub returns-in-Done-clause-tears : goal.returns-in-Done-clause-tears
returns-in-Done-clause-tears c = λ d image was torn.
    let same : c.in-Ok.copy.items ≡ c.args.from.now = c.in-Ok.ensures.copy in
    made_leaves _ _ _ _ (stands c.args.self.now) _ (c.in-Ok.ensures.kept c.put.new.bytes.items) _ _ _ _ c.in-Done.ensures.noted image
    (d, was, subst (λ n. Torn c.args.at n d image) (sym (ap length same)) torn)
