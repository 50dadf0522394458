-- One call of a backup after another.
use Rattle.std.proofs.Common.{◌≡◌, ℕ, ◌<◌, ◌++◌, IfOk, OnOk, refl, sym, ap, ◌∙◌, subst, arith, Result, Ok, Err}
use Rattle.tm_base.specs.declared.refused.LineFault.{LineFault}
use Rattle.tm_base.specs.declared.refused.LineFault.TheVariants.{Refused, Fault, Memory}
use Rattle.tm_world.specs.declared.bytes.Blob.{Blob}
use Rattle.tm_world.specs.Disk.{Disk}
use Rattle.tm_world.specs.Log.{Log, now, Steps}
use Rattle.tm_world.specs.Outside.{Outside, disk}
use Rattle.tm_world.specs.Runs.{Runs, Beside}
use Rattle.tm_world.specs.declared.world.Side.TheVariants.{Volume, Store}
use Rattle.tm_world.proofs.Going.{Runs-none, Runs-stays, Runs-then}
use Rattle.tm_world.proofs.Pairs.{Runs-ends}
use Rattle.tm_blockmap.specs.Counts.{times}
use Rattle.tm_blockmap.proofs.Counting.{times-append}
use Rattle.tm_graph.specs.Nodes.{IsGraph}
use Rattle.tm_image.specs.Seen.{Stands}
use Rattle.tm_volume.specs.Seen.{Seen, StandsOn}
use Rattle.tm_store_records.specs.Laws.{HeldReads}
use Rattle.tm_store_records.specs.States.{StoredStore, LeavesOneStore}
use Rattle.tm_store_records.specs.Held.{Held, IsWhole, store_on, store_stored_on}
use Rattle.tm_store.specs.Answers.{UnlessFault, OnRefusal}
use Rattle.tm_backup.specs.Steps.{Standing, MayGo, volume_bytes, store_bytes, Ran, Went}
use Rattle.tm_backup.proofs.Looks.{kept_listed, ready_listed, stands_listed, listed_then}

-- a call that only reads, seen from the store
module _ (told : Type 0) where
  pub ran_none : (v : Seen) (s : Held) (l : Log) → Ran told v v s s l l
  ran_none v s l = record { runs = λ _. Runs-none Store _ l; volume = refl; size = refl }

  pub went_none : (v : Seen) (s : Held) (l : Log) (a b : ℕ) → MayGo told v s (now l) a b → Went told s s l l
  went_none v s l a b may = record {
    same = refl;
    whole = may.whole;
    stands = λ t. (may.standing t).image_on;
    state = λ t. refl;
    grows = λ k. omega arith;
    others = λ t k some. refl;
  }

  module _ (v : Seen) (s : Held) (l m : Log) (a b : ℕ) (may : MayGo told v s (now l) a b) (steps : told → Steps l m (now l)) where
    disk_same : told → disk Store (now m) ≡ disk Store (now l)
    disk_same t = ap (disk Store) (steps t).ends

    pub ran_read : HeldReads → Ran told v v s s l m
    ran_read reads = record {
      runs = λ t. Runs-stays Store (LeavesOneStore (store_stored_on s (store_bytes l))) l l m (Runs-none Store _ l) (steps t) (λ image left. reads s (disk Store (now l)) image may.whole (may.standing t).image_on left);
      volume = refl;
      size = refl;
    }

    pub went_read : Went told s s l m
    went_read = record {
      same = refl;
      whole = may.whole;
      stands = λ t. subst (Stands s.image) (sym (disk_same t)) (may.standing t).image_on;
      state = λ t. ap (λ (d : Disk). store_on s d.bytes) (disk_same t);
      grows = λ k. omega arith;
      others = λ t k some. ap (λ (d : Disk). d.bytes k) (disk_same t);
    }

    pub may_read : MayGo told v s (now m) a b
    may_read = record {
      kept = may.kept;
      ready = may.ready;
      whole = may.whole;
      graph = may.graph;
      count = may.count;
      standing = λ t. subst (λ (o : Outside). Standing v s o) (sym (steps t).ends) (may.standing t);
    }

  -- ---- after a call

  module _ (v w : Seen) (s t : Held) (l m : Log) (a b : ℕ) (may : MayGo told v s (now l) a b) (ran : Ran told v w s t l m) where
    beside : told → Beside Store (λ d. d ≡ disk Store (now m)) (now l) (now m)
    beside y = Runs-ends Store (LeavesOneStore (store_stored_on s (store_bytes l))) l m (may.standing y).apart (ran.runs y)

    -- the volume's disk is as it was
    pub volume_same : told → volume_bytes m ≡ volume_bytes l
    volume_same y = ap (λ (d : Disk). d.bytes) (beside y).there

    module _ (went : Went told s t l m) where
      pub may_then : MayGo told w t (now m) a b
      may_then = record {
        kept = kept_listed v w w.looks ran.volume may.kept;
        ready = ready_listed v w w.looks ran.volume a may.ready;
        whole = went.whole;
        graph = subst IsGraph (sym (ap (λ (h : Held). h.nodes) went.same)) may.graph;
        count = ran.size ∙ may.count;
        standing = λ y. record {
          apart = (beside y).apart;
          volume_on = stands_listed v w w.looks ran.volume (disk Volume (now m)) (subst (StandsOn v) (sym (beside y).there) (may.standing y).volume_on);
          image_on = went.stands y;
        };
      }

      stored_same : told → store_stored_on t (store_bytes m) ≡ store_stored_on s (store_bytes l)
      stored_same y = λ i. record { store = went.state y i; running = ap (λ (h : Held). h.stored) went.same i }

      pub ran_then : (x : Seen) (u : Held) (n : Log) → Ran told w x t u m n → Ran told v x s u l n
      ran_then x u n more = record {
        runs = λ y. Runs-then Store (LeavesOneStore (store_stored_on s (store_bytes l))) l m n (ran.runs y) (subst (λ (k : StoredStore). Runs Store (LeavesOneStore k) m n) (stored_same y) (more.runs y));
        volume = listed_then v w x ran.volume more.volume;
        size = more.size ∙ ran.size;
      }

      pub went_then : (u : Held) (n : Log) → Went told t u m n → Went told s u l n
      went_then u n more = record {
        same = more.same ∙ ap (λ (h : Held). record h { image = u.image; staged = u.staged }) went.same;
        whole = more.whole;
        stands = more.stands;
        state = λ y. more.state y ∙ went.state y;
        grows = λ k. omega (arith, went.grows k, more.grows k);
        others = λ y k some. more.others y k (omega (arith, went.grows k, some)) ∙ went.others y k some;
      }

-- unless a side failed
pub unless_none : {A : Type 0} (r : Result A LineFault) (P : Type 0) → P → UnlessFault r P
unless_none (Ok a) P p = p
unless_none (Err (Refused why)) P p = p
unless_none (Err (Fault side)) P p = tt
unless_none (Err Memory) P p = p

pub unless_map : {A : Type 0} (r : Result A LineFault) (P Q : Type 0) → (P → Q) → UnlessFault r P → UnlessFault r Q
unless_map (Ok a) P Q f h = f h
unless_map (Err (Refused why)) P Q f h = f h
unless_map (Err (Fault side)) P Q f h = tt
unless_map (Err Memory) P Q f h = f h

-- another answer with the same error
pub unless_err : {A : Type 0} (B : Type 0) (r : Result A LineFault) (e : LineFault) (P Q : Type 0) → r ≡ Err e → (P → Q) → UnlessFault {A = B} (Err e) P → UnlessFault r Q
unless_err {A} B r e P Q is f h = subst (λ (q : Result A LineFault). UnlessFault q Q) (sym is) (by_error e h)
  where
    by_error : (e : LineFault) → UnlessFault {A = B} (Err e) P → UnlessFault {A = A} (Err e) Q
    by_error (Refused why) h = f h
    by_error (Fault side) h = tt
    by_error Memory h = f h

-- ---- staging a file

same_as : (s t : Held) → t ≡ s → t ≡ record s { image = t.image; staged = t.staged }
same_as s t e = e ∙ (λ i. record s { image = (sym e i).image; staged = (sym e i).staged })

module _ (told : Type 0) (s t : Held) (l m : Log) where
  abbrev stands_then : Type 0
  stands_then = Stands t.image (disk Store (now m))

  abbrev state_then : Type 0
  state_then = store_on t (store_bytes m) ≡ store_on s (store_bytes l)

  abbrev others_then : Type 0
  others_then = (b : ℕ) → 0 < times b s.staged → store_bytes m b ≡ store_bytes l b

  went_same : t ≡ s → IsWhole t → (told → stands_then) → (told → state_then) → (told → others_then) → Went told s t l m
  went_same e whole stands state others = record { same = same_as s t e; whole = whole; stands = stands; state = state; grows = λ k. omega (arith, ap (λ (h : Held). times k h.staged) e); others = others }

  pub staged_went : (r : Result Blob LineFault) (X : Type 0) → (told → UnlessFault r stands_then) → (told → UnlessFault r state_then) → (told → UnlessFault r others_then) → UnlessFault r (IsWhole t)
      → OnOk r (t ≡ record s { image = t.image; staged = t.staged }) → OnRefusal r ((t ≡ s) × X) → IfOk r (λ blob. t.staged ≡ s.staged ++ blob.blocks) → UnlessFault r (Went told s t l m)
  staged_went (Ok blob) X stands state others whole same err staged = record {
    same = same;
    whole = whole;
    stands = stands;
    state = state;
    grows = λ k. omega (arith, ap (times k) staged, times-append k s.staged blob.blocks);
    others = others;
  }
  staged_went (Err (Refused why)) X stands state others whole same err staged = went_same err.0 whole stands state others
  staged_went (Err (Fault side)) X stands state others whole same err staged = tt
  staged_went (Err Memory) X stands state others whole same err staged = went_same err.0 whole stands state others
