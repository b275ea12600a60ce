use Rattle.std.proofs.Common.{List, refl, subst, arith}
use Rattle.dd_disk.specs.Calls.{first_of, images_of}
use Rattle.dd_disk.specs.declared.call.Call.{Call}
use Rattle.dd_disk.proofs.Memories.{no_fewer, view_reads}
use Rattle.dd_disk.proofs.Noting.{stands, still, made_images, made_time, missed_time}
use Rattle.dd_disk.proofs.mem.MemDiskDisk.read.Goals as goal

pub invariant_of-self : goal.invariant_of-self
invariant_of-self c =
    let after = still _ _ _ _ (stands c.args.self.now) c.note.result _ _ _ refl (omega arith) c.note.ensures.noted in
    record { replayed = after.replayed; past = after.past }

pub returns-in-Done-clause-reads : goal.returns-in-Done-clause-reads
returns-in-Done-clause-reads c = record {
  only =
      view_reads _ _ refl refl (no_fewer _ _ c.in-Done.ensures.faults) (λ t at bytes before read. read) refl
      (made_images _ _ _ _ (stands c.args.self.now) _ refl _ _ _ _ c.in-Done.ensures.noted) (made_time _ _ _ _ (stands c.args.self.now) _ refl _ _ _ _ c.in-Done.ensures.noted);
  faults_are = c.in-Done.ensures.faults;
}

pub returns-in-Failed-clause-reads : goal.returns-in-Failed-clause-reads
returns-in-Failed-clause-reads c = record {
  only =
      view_reads _ _ refl refl c.in-Failed.ensures.faults.0 (λ t at bytes before read. read) refl
      (made_images _ _ _ _ (stands c.args.self.now) _ refl _ _ _ _ c.in-Failed.ensures.noted)
      (made_time _ _ _ _ (stands c.args.self.now) _ refl _ _ _ _ c.in-Failed.ensures.noted);
  faults_are = c.in-Failed.ensures.faults.1;
}

pub returns-in-Missed-clause-reads : goal.returns-in-Missed-clause-reads
returns-in-Missed-clause-reads c = record {
  only =
      let d = c.args.self.now in
      view_reads _ _ refl refl c.in-Missed.ensures.faults.0 (λ t at bytes before read. read) refl
      (λ image here. subst (λ (l : List Call). images_of (first_of d.first d.bytes.items) l image) c.in-Missed.ensures.noted.1 here)
      (missed_time _ _ _ _ (stands d) _ refl _ _ c.in-Missed.ensures.noted);
  faults_are = c.in-Missed.ensures.faults.1;
}
