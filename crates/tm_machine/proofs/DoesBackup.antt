-- A session in which a backup has started.
use Rattle.std.proofs.Common.{◌≡◌, ℕ, Option, Some, None, Result, Ok, Err, List, [], refl, sym, ◌∙◌, ap, subst}
use Rattle.tm_base.specs.declared.refused.LineFault.{LineFault}
use Rattle.tm_base.specs.declared.refused.LineFault.TheVariants.{Refused as RefusedFor, Fault, Memory}
use Rattle.tm_base.specs.declared.refused.Refused.{Refused}
use Rattle.tm_base.specs.declared.refused.Refused.TheVariants.{NoStore, NoVolume}
use Rattle.tm_reply.specs.declared.row.ReplyRow.{ReplyRow}
use Rattle.tm_text.specs.declared.line.Line.TheVariants as line
use Rattle.tm_tree.specs.Refusing.{first_refused}
use Rattle.tm_store_records.specs.Held.{Held, store_on, store_stored_on}
use Rattle.tm_store_records.specs.States.{StoredStore}
use Rattle.tm_image.specs.Seen.{Stands}
use Rattle.tm_volume.specs.Reads.{LeavesSide}
use Rattle.tm_volume.specs.Seen.{Seen as VolumeSeen, IsKept, IsReady, StandsOn, stored_on}
use Rattle.tm_volume.specs.Stored.{StoredVolume}
use Rattle.tm_world.specs.Disk.{Disk}
use Rattle.tm_world.specs.Log.{Log, now}
use Rattle.tm_world.specs.Outside.{disk, AreApart}
use Rattle.tm_world.specs.Runs.{Runs}
use Rattle.tm_world.specs.declared.world.Side.{Side}
use Rattle.tm_world.specs.declared.world.Side.TheVariants.{Volume as VolumeSide, Store as StoreSide}
use Rattle.tm_world.proofs.Going.{Passes-none}
use Rattle.tm_world.proofs.Pairs.{Runs-ends}
use Rattle.tm_machine.specs.Allowed.{Did, MayBackUp, backup_effect}
use Rattle.tm_machine.specs.Backups.{DoesBackup, copy_of}
use Rattle.tm_machine.specs.Session.{state_on, Standing, IsIdle, IsOpen, IfReplied, changeless_effect, Replies, Does}
use Rattle.tm_machine.specs.States.{State, store_in}
use Rattle.tm_machine.specs.Steps.{backup_tests, ended, start_tests, walks_tests}
use Rattle.tm_machine.proofs.CopyLemmas.{first_some}
use Rattle.tm_machine.proofs.Resting.{seen, state}
use Rattle.tm_machine.proofs.StoreLines.{backup_moments, backup_replies, effect_by, store_standing}

unlooked_stands : (v w : VolumeSeen) (d : Disk) → w ≡ record v { looks = w.looks } → StandsOn v d → StandsOn w d
unlooked_stands v w d same h = subst (λ (x : VolumeSeen). StandsOn x d) (sym same) (record { stands = h.stands; good = h.good; fixed = h.fixed })

replied : {A : Type 0} (result : Result A LineFault) (P Q : Type 0) → (P → Q) → IfReplied result P → IfReplied result Q
replied (Ok a) P Q f h = f h
replied (Err (RefusedFor why)) P Q f h = f h
replied (Err (Fault side)) P Q f h = tt
replied (Err Memory) P Q f h = tt

-- the plain machine's backup copies the labelled copy
plain_effect : (n k : ℕ) (v : StoredVolume) (z : StoredStore) (moment : Option ℕ) → changeless_effect (state n k (Some v) (Some z) moment) line.StartBackupBlock ≡ backup_effect (copy_of z.store v.volume) (state n k (Some v) (Some z) moment)
plain_effect n k v z None = refl
plain_effect n k v z (Some date) = refl

-- a backup that doesn't start changes nothing
does_start : (n k : ℕ) (v : VolumeSeen) (h : Held) (moment : Option ℕ) (start : Log) (why : Refused) → let m = seen n k (Some v) (Some h) moment in
    first_refused (backup_tests (store_on h (disk StoreSide (now start)).bytes) moment) ≡ Some why → Standing m (now start)
    → Does (changeless_effect (state_on m (now start)) line.StartBackupBlock) m m start start (Err (RefusedFor why))
does_start n k v h moment start why e standing =
    let s = state_on (seen n k (Some v) (Some h) moment) (now start) in
    record {
      replies = (first_some (start_tests s) (walks_tests k s.volume (store_in s.store) moment) why e, sym (ap (λ (x : Option Refused). ended x s) e));
      standing = standing;
      moments = Passes-none start _;
    }

pub refused_start : (n k : ℕ) (v : VolumeSeen) (h : Held) (moment : Option ℕ) (start : Log) (why : Refused) → let m = seen n k (Some v) (Some h) moment in
    first_refused (backup_tests (store_on h (disk StoreSide (now start)).bytes) moment) ≡ Some why → Standing m (now start)
    → Did (MayBackUp (state_on m (now start))) m m start start (Err (RefusedFor why))
refused_start n k v h moment start why e standing =
    let whole = stored_on v (disk VolumeSide (now start)).bytes in
    let before = store_stored_on h (disk StoreSide (now start)).bytes in
    record {
      effect = changeless_effect (state n k (Some whole) (Some before) moment) line.StartBackupBlock;
      may = record { tree = copy_of before.store whole.volume; is = plain_effect n k whole before moment; exact = λ fits. refl };
      does = does_start n k v h moment start why e standing;
    }

module _ (n k : ℕ) (v w : VolumeSeen) (h g : Held) (date : ℕ) (start end : Log) (apart : AreApart (now start)) (volume : w ≡ record v { looks = w.looks })
    (runs : Runs StoreSide (λ _. Unit {0}) start end) where
  abbrev at_start : State
  at_start = state_on (seen n k (Some v) (Some h) (Some date)) (now start)

  abbrev before : StoredStore
  before = store_stored_on h (disk StoreSide (now start)).bytes

  abbrev whole : StoredVolume
  whole = stored_on v (disk VolumeSide (now start)).bytes

  abbrev after : StoredStore
  after = store_stored_on g (disk StoreSide (now end)).bytes

  same_volume : stored_on w (disk VolumeSide (now end)).bytes ≡ whole
  same_volume =
      ap (λ (x : VolumeSeen). stored_on x (disk VolumeSide (now end)).bytes) volume
      ∙ ap (λ (d : Disk). stored_on v d.bytes) (Runs-ends StoreSide _ start end apart runs).there

  ends : state n k (Some whole) (Some after) (Some date) ≡ state_on (seen n k (Some w) (Some g) (Some date)) (now end)
  ends = λ i. state n k (Some (sym same_volume i)) (Some after) (Some date)

  pub stands_after : (result : Result (List ReplyRow) LineFault) → StandsOn v (disk VolumeSide (now start)) → IfReplied result (Stands g.image (disk StoreSide (now end)))
      → IfReplied result (Standing (seen n k (Some w) (Some g) (Some date)) (now end))
  stands_after result volume_stands stands = replied result _ _
      (store_standing _ start end apart runs n k (Some w) g (Some date) (unlooked_stands v w (disk VolumeSide (now start)) volume volume_stands)) stands

  pub does_backup : (result : Result (List ReplyRow) LineFault) → first_refused (backup_tests before.store (Some date)) ≡ None → StandsOn v (disk VolumeSide (now start)) → LeavesSide (Some whole) (disk VolumeSide (now start))
      → IfReplied result (Stands g.image (disk StoreSide (now end)))
      → DoesBackup k before whole date after start end result
      → Did (MayBackUp at_start) (seen n k (Some v) (Some h) (Some date)) (seen n k (Some w) (Some g) (Some date)) start end result
  does_backup result none volume_stands rests stands did = record {
    effect = effect_by n k whole before date did.finished;
    may = record {
      tree = did.may.tree;
      is = ap (effect_by n k whole before date) did.may.is;
      exact = λ fits. ap (effect_by n k whole before date) (did.may.exact fits);
    };
    does = record {
      replies = subst (λ (x : State). Replies (effect_by n k whole before date did.finished) x result) ends (backup_replies n k whole before date did.finished none after result did.answers);
      standing = stands_after result volume_stands stands;
      moments = backup_moments n k whole before date did.finished none start end apart rests did.moments;
    };
  }

module _ (n k : ℕ) (v w : VolumeSeen) (h g : Held) (date : ℕ) (volume : w ≡ record v { looks = w.looks }) where
  pub open_after : (result : Result (List ReplyRow) LineFault) (blocks more : Side → ℕ) → IsOpen (seen n k (Some v) (Some h) (Some date)) blocks → more ≡ blocks → IfReplied result (IsIdle g k)
      → IfReplied result (IsOpen (seen n k (Some w) (Some g) (Some date)) more)
  open_after result blocks more at same idle = replied result _ _
      (λ is_idle. record {
        count = ap (λ (b : Side → ℕ). b VolumeSide) same ∙ at.count;
        small = at.small;
        sound = subst (λ (x : VolumeSeen). IsKept x) (sym volume) (record { image = at.sound.image; side = at.sound.side; tag_is = at.sound.tag_is; tagged = at.sound.tagged; head_is = at.sound.head_is; sound = at.sound.sound; lengths = at.sound.lengths });
        ready = subst (λ (x : VolumeSeen). IsReady x n) (sym volume) (record { settled = at.ready.settled; space = at.ready.space; count = at.ready.count; unstaged = at.ready.unstaged });
        store_count = ap (λ (b : Side → ℕ). b StoreSide) same ∙ at.store_count;
        store_small = at.store_small;
        idle = is_idle;
      }) idle

-- ---- a backup without a volume, or without a store

pub no_volume : (n k : ℕ) (store : Option Held) (moment : Option ℕ) (start : Log) → let m = seen n k None store moment in
    Standing m (now start) → Did (MayBackUp (state_on m (now start))) m m start start (Err (RefusedFor NoVolume))
no_volume n k store moment start standing = record {
  effect = changeless_effect (state_on (seen n k None store moment) (now start)) line.StartBackupBlock;
  may = record { tree = []; is = refl; exact = λ fits. refl };
  does = record { replies = (refl, refl); standing = standing; moments = Passes-none start _ };
}

pub no_store : (n k : ℕ) (v : VolumeSeen) (moment : Option ℕ) (start : Log) → let m = seen n k (Some v) None moment in
    Standing m (now start) → Did (MayBackUp (state_on m (now start))) m m start start (Err (RefusedFor NoStore))
no_store n k v moment start standing = record {
  effect = changeless_effect (state_on (seen n k (Some v) None moment) (now start)) line.StartBackupBlock;
  may = record { tree = []; is = refl; exact = λ fits. refl };
  does = record { replies = (refl, refl); standing = standing; moments = Passes-none start _ };
}
