-- A core that was just opened, over any disk; and, where a file is put then, the journal of the disk with its name.
use Rattle.backup_engine.proofs.Prelude.{◌≡◌, ℕ, List, Some, Ok, sym, ◌∙◌, subst, arith, Put, StandsFor, DiskView, reads_here, stands_reads, stands_weaker, shown_content, Store, Encodes, IsValidFor, HasJournal, with_change, root_of, has_journal, CoreState, PutRun, seals_of}
use Rattle.dd_disk.proofs.Later.{reads_leave}
use Rattle.backup_engine.proofs.Called.{Called, settled}
use Rattle.backup_engine.proofs.KeptBytes.{KeepsSlots, change_later, free_held, free_sealed, slots_here}
use Rattle.backup_engine.proofs.PutChanges.{IsOn, put_changes, ways_of}
use Rattle.backup_engine.proofs.PutFrame.{IsFramed, framed_way, last_named}

module _ (C : Type 0) (state : C → CoreState) (v w : DiskView) (old new : C) (called : Called C state v w old new) where
  abbrev store : Store
  store = called.opened.store

  -- the core is on the store that was opened
  pub opened_on : IsOn store (state old)
  opened_on = record {
    represents = called.opened.represents;
    valid = subst (λ (size : ℕ). IsValidFor size store) (sym called.first.only.later.size_is) called.opened.valid;
    has_free = omega (arith, called.opened.reserve);
    told = called.opened.told;
    whole = called.opened.whole;
    runs = called.opened.stop_is;
  }

  module _ (base : List ℕ) (known : v.content ≡ Some base) where
    pub opened_right : Encodes base store
    opened_right = shown_content v (state old).disk (λ image. Encodes image store) base called.opened.right known

    told : (state old).disk.content ≡ Some base
    told = called.first.only.content_is ∙ known

    pub opened_framed : IsFramed store base (state old).disk (state old)
    opened_framed = record {
      store = store;
      on = opened_on;
      held = record {
        free = free_held base store opened_right;
        content = (base, told, slots_here store.slots base);
        settled = settled C state v w old new called store.slots;
      };
      clock = omega arith;
      images = reads_leave (KeepsSlots store.slots base) (state old).disk (state old).disk
          (λ c image. subst (KeepsSlots store.slots base) (sym (called.durable base told c image)) (slots_here store.slots base)) (reads_here (state old).disk);
    }

    module _ (name given : List ℕ) (run : PutRun C state name given (Ok tt) old new) where
      abbrev after : Store
      after = (put_changes C state name given store (Ok tt) old new opened_on run).after

      abbrev HasName : Store → List ℕ → Type 0
      HasName s = HasJournal (with_change name (Put (root_of given)) s)

      -- the journal of the store that was opened is that of the one after its seals
      later_named : (c : List ℕ) → HasName store c → HasName after c
      later_named =
          let puts = put_changes C state name given store (Ok tt) old new opened_on run in
          let free = free_sealed store base (seals_of run.steps) store after puts.chain puts.seals (free_held base store opened_right) in
          change_later store after free.rest_is name (Put (root_of given))

      -- the journal of the disk now is that with the name
      pub names_with : StandsFor (HasJournal (with_change name (Put (root_of given)) after)) w
      names_with =
          let has = has_journal store base opened_right in
          let ways = ways_of C state name given (Ok tt) old new run in
          let there = framed_way store base name given (state old).disk C state ways.way old ways.mid opened_framed ways.ran ways.each in
          let named = last_named store base name given (state old).disk (state ways.mid) (state new) there ways.last has in
          stands_reads (HasName after) (state new).disk w (stands_weaker (HasName store) (HasName after) (state new).disk later_named named) called.last.only
