-- The copy of a backup, and how it ends.
use Rattle.std.proofs.Common.{◌≡◌, inl, ℕ, ◌+◌, ◌-◌, Bool, true, false, cond, nat_lt, Option, Some, None, IfSome, Ok, Err, List, [], ◌∷◌, ◌++◌, length, sum, refl, sym, ◌∙◌, ap, subst, arith}
use Rattle.tm_base.specs.declared.refused.LineFault.{LineFault}
use Rattle.tm_base.specs.declared.refused.LineFault.TheVariants.{Refused as RefusedFor, Fault, Memory}
use Rattle.tm_base.specs.declared.refused.Refused.{Refused}
use Rattle.tm_base.specs.declared.refused.Refused.TheVariants.{Full}
use Rattle.tm_base.specs.Limits.{max_nodes}
use Rattle.tm_reply.specs.declared.row.ReplyRow.{ReplyRow}
use Rattle.tm_tree.specs.declared.rows.Mark.{Mark}
use Rattle.tm_tree.specs.Refusing.{Tests, first_refused, too_many}
use Rattle.tm_tree.specs.States.{StoreState, VolumeState, backed_up, base}
use Rattle.tm_tree.specs.Copies.{LabelledTree}
use Rattle.tm_fit.specs.Fit.{Fits}
use Rattle.tm_tree.specs.Views.{view}
use Rattle.tm_graph.specs.declared.built.Built.{Built}
use Rattle.tm_image.specs.Room.{free_of, need_of}
use Rattle.tm_store.specs.Answers.{IfRefused, OnRefusal, UnlessFault}
use Rattle.tm_snapshot.specs.Completing.{after_complete, complete_refusal, count_after, unless_refusal}
use Rattle.tm_store_records.specs.Built.{all_nodes, store_completed, files_built, snapshot_built}
use Rattle.tm_store_records.specs.Held.{Held, IsWhole, store_on, store_stored_on}
use Rattle.tm_store_records.specs.Room.{store_blocks}
use Rattle.tm_store_records.specs.Sizes.{IsSized, free_blocks, node_count, table_blocks}
use Rattle.tm_store_records.specs.States.{StoredStore, StoreReads, LeavesStore, LeavesOneStore, snapshot_on}
use Rattle.tm_volume.specs.Stored.{StoredVolume}
use Rattle.tm_world.specs.Disk.{Disk}
use Rattle.tm_world.specs.Log.{Log}
use Rattle.tm_world.specs.Runs.{Runs}
use Rattle.tm_world.specs.declared.world.Side.TheVariants.{Store as StoreSide}
use Rattle.tm_world.proofs.Going.{Runs-weaker, Runs-then}
use Rattle.tm_backup.specs.Answers.{Stages}
use Rattle.tm_snapshot.specs.Sizes.{AreCompletedSizes}
use Rattle.tm_backup.specs.Steps.{Went, store_bytes}
use Rattle.tm_backup.specs.Walk.{first_full, staging}
use Rattle.tm_machine.specs.Backups.{AnswersCopy, MayFinishAs, backed_with, copy_of, dated, finishes_as, walk_refusal}
use Rattle.tm_machine.specs.Steps.{at_rest, finish_tests, finished_rows, staging_tests, unless_refused}
use Rattle.tm_machine.proofs.StoreLines.{first_none}

-- ---- refusals

staged_same : (t free : ℕ) (bs : List ℕ) → first_refused (staging_tests t free bs) ≡ first_full t free bs
staged_same t free [] = refl
staged_same t free (b ∷ bs) = ap (λ (x : Option Refused). cond (nat_lt free (b + t)) (Some (Full (b + t) free)) x) (staged_same t (free - b) bs)

pub first_some : (a b : Tests) (why : Refused) → first_refused a ≡ Some why → first_refused (a ++ b) ≡ Some why
first_some [] b why h = absurd (cc h)
first_some ((t, w) ∷ a) b why h = by_test t h (first_some a b why)
  where
    by_test : (t : Bool) → cond t (Some w) (first_refused a) ≡ Some why → (first_refused a ≡ Some why → first_refused (a ++ b) ≡ Some why) → cond t (Some w) (first_refused (a ++ b)) ≡ Some why
    by_test true h rest = h
    by_test false h rest = rest h

joined : (a b c : Tests) → first_refused ((a ++ b) ++ c) ≡ first_refused (a ++ (b ++ c))
joined [] b c = refl
joined ((t, w) ∷ a) b c = ap (λ (x : Option Refused). cond t (Some w) x) (joined a b c)

-- at the date that there is
pub at_date : (P : ℕ → Type 0) (o : Option ℕ) (date : ℕ) → o ≡ Some date → IfSome o P → P date
at_date P None date e h = absurd (cc e)
at_date P (Some d) date e h = subst P (let same : d ≡ date = cc e in same) h

-- a store in which a backup of this date runs, and a volume
module _ (blocks : ℕ) (old : Held) (old_bytes : ℕ → List ℕ) (v : StoredVolume) (date : ℕ) (new : StoreState)
    (whole : IsWhole old) (sized : IsSized old (store_on old old_bytes)) (count : length old.image.used ≡ blocks) (running : old.running ≡ Some date) (unstaged : old.staged ≡ []) where
  abbrev s : StoreState
  s = store_on old old_bytes

  abbrev staged : List ℕ
  staged = staging (base s v.volume.id) (view v.volume.contents.fixed v.volume.contents.tree)

  abbrev table : ℕ
  table = store_blocks old.machine old.snapshots old.nodes

  abbrev walks : Option Refused
  walks = walk_refusal new blocks s v.volume

  abbrev later : Tests
  later = too_many max_nodes (node_count new) ++ finish_tests blocks s new (sum staged)

  in_turn : walks ≡ first_refused (staging_tests (table_blocks s) (free_blocks blocks s) staged ++ later)
  in_turn = joined (staging_tests (table_blocks s) (free_blocks blocks s) staged) (too_many max_nodes (node_count new)) (finish_tests blocks s new (sum staged))

  free_is : free_of old.image ≡ free_blocks blocks s
  free_is = let none : length old.staged ≡ 0 = ap (λ (xs : List ℕ). length xs) unstaged in let all : free_of old.image + length old.staged ≡ free_blocks blocks s = sized.free ∙ ap (λ n. free_blocks n s) count in omega (arith, none, all)

  stored_old : store_stored_on old old_bytes ≡ dated s date
  stored_old = ap (λ (o : Option ℕ). record { store = s; running = o }) (whole.runs date running).0

  pub refused_copy : (why : Refused) → first_full table (free_of old.image) staged ≡ Some why → walks ≡ Some why
  refused_copy why full = in_turn ∙ first_some (staging_tests (table_blocks s) (free_blocks blocks s) staged) later why
      (staged_same (table_blocks s) (free_blocks blocks s) staged ∙ sym (λ i. first_full (sized.table i) (free_is i) staged) ∙ full)

  -- ---- at each moment

  pub copy_moments : (after : StoredStore) (start end : Log) → Runs StoreSide (LeavesOneStore (store_stored_on old old_bytes)) start end → Runs StoreSide (LeavesStore (dated s date) after) start end
  copy_moments after start end runs = Runs-weaker StoreSide _ _ start end (λ d left image is. inl (subst (λ (x : StoredStore). StoreReads image x) stored_old (left image is))) runs

  -- ---- a copy that is refused

  pub copy_answers : (A : Type 0) (told : Type 0) (proof : told) (h : Held) (left : ℕ) (start end : Log) → store_bytes start ≡ old_bytes → (why : LineFault) → Stages {A = A} table (free_of old.image) left staged (Err why)
      → UnlessFault {A = A} (Err why) (Went told old h start end) → AnswersCopy new blocks s v date (store_stored_on h (store_bytes end)) (Err why)
  copy_answers A told proof h left start end first (RefusedFor why) stages went = (refused_copy why stages, stays)
    where
      stays : store_stored_on h (store_bytes end) ≡ dated s date
      stays = (λ i. record { store = (went.state proof ∙ ap (store_on old) first) i; running = (ap (λ (x : Held). x.stored) went.same ∙ (whole.runs date running).0) i })
  copy_answers A told proof h left start end first (Fault side) stages went = tt
  copy_answers A told proof h left start end first Memory stages went = tt

  -- ---- a copy that is done

  module _ (h : Held) (built : Built) (name : List ℕ) (id : ℕ) (mark : Mark) (bytes : ℕ → List ℕ) (same : h ≡ record old { image = h.image; staged = h.staged }) (state : store_on h bytes ≡ s)
      (full : first_full table (free_of old.image) staged ≡ None) (room : free_of h.image + sum staged ≡ free_of old.image)
      (sizes : AreCompletedSizes h built date name id mark bytes) (is : store_completed h built date name id mark bytes ≡ new) where
    rest : walks ≡ first_refused (too_many max_nodes (node_count new) ++ finish_tests blocks s new (sum staged))
    rest = in_turn ∙ first_none (staging_tests (table_blocks s) (free_blocks blocks s) staged) later
        (staged_same (table_blocks s) (free_blocks blocks s) staged ∙ sym (λ i. first_full (sized.table i) (free_is i) staged) ∙ full)

    pub refusal_same : complete_refusal h built date name id mark ≡ walks
    refusal_same =
        let table_old : store_blocks h.machine h.snapshots h.nodes ≡ table_blocks s = (λ i. store_blocks ((same i).machine) ((same i).snapshots) ((same i).nodes)) ∙ sized.table in
        let table_new : store_blocks h.machine (h.snapshots ++ snapshot_built h built date name id mark ∷ []) (all_nodes h built) ≡ table_blocks new = sym sizes.table ∙ ap table_blocks is in
        let nodes : count_after h built ≡ node_count new = sym sizes.nodes ∙ ap node_count is in
        let free : free_of h.image ≡ free_blocks blocks s - sum staged = omega (arith, room, free_is) in
        (λ i. first_refused (too_many max_nodes (nodes i) ++ (nat_lt (free i) (need_of (table_old i) (table_new i) 0), Full (need_of (table_old i) (table_new i) 0) (free i)) ∷ []))
        ∙ sym rest

    pub stored_is : store_stored_on h bytes ≡ dated s date
    stored_is = (λ i. record { store = state i; running = (ap (λ (x : Held). x.stored) same ∙ (whole.runs date running).0) i })

    after_by : (w : Option Refused) → complete_refusal h built date name id mark ≡ w → walks ≡ w → after_complete h built date name id mark bytes ≡ finishes_as new blocks s v.volume date
    after_by None e f =
        ap (λ (x : Option Refused). unless_refusal x (store_stored_on h bytes) (record { store = store_completed h built date name id mark bytes; running = None })) e
        ∙ ap at_rest is
        ∙ sym (ap (λ (x : Option Refused). unless_refused x (dated s date) (at_rest new)) f)
    after_by (Some why) e f =
        ap (λ (x : Option Refused). unless_refusal x (store_stored_on h bytes) (record { store = store_completed h built date name id mark bytes; running = None })) e
        ∙ stored_is
        ∙ sym (ap (λ (x : Option Refused). unless_refused x (dated s date) (at_rest new)) f)

    after_is : after_complete h built date name id mark bytes ≡ finishes_as new blocks s v.volume date
    after_is = after_by walks refusal_same refl

    pub finish_moments : (start mid end : Log) → Runs StoreSide (LeavesOneStore (store_stored_on old old_bytes)) start mid
        → Runs StoreSide (LeavesStore (store_stored_on h bytes) (after_complete h built date name id mark bytes)) mid end → Runs StoreSide (LeavesStore (dated s date) (finishes_as new blocks s v.volume date)) start end
    finish_moments start mid end first second = Runs-then StoreSide _ start mid end
        (copy_moments (finishes_as new blocks s v.volume date) start mid first)
        (subst (λ (x : StoredStore). Runs StoreSide (LeavesStore x (finishes_as new blocks s v.volume date)) mid end) stored_is
        (subst (λ (x : StoredStore). Runs StoreSide (LeavesStore (store_stored_on h bytes) x) mid end) after_is second))

    pub refused_answers : (A : Type 0) (X : Type 0) (g : Held) (more : ℕ → List ℕ) (why : LineFault) → IfRefused {A = A} (Err why) (λ w. complete_refusal h built date name id mark ≡ Some w)
        → IfRefused {A = A} (Err why) (λ w. g ≡ h) → OnRefusal {A = A} (Err why) X → (X → more ≡ bytes) → AnswersCopy new blocks s v date (store_stored_on g more) (Err why)
    refused_answers A X g more (RefusedFor why) refused err untouched gives =
        (sym refusal_same ∙ refused, (λ i. store_stored_on (err i) (gives untouched i)) ∙ stored_is)
    refused_answers A X g more (Fault side) refused err untouched gives = tt
    refused_answers A X g more Memory refused err untouched gives = tt

    pub done_answers : (g : Held) (more : ℕ → List ℕ) (found : List ReplyRow) → complete_refusal h built date name id mark ≡ None → store_on g more ≡ store_completed h built date name id mark bytes → g.stored ≡ None
        → found ≡ finished_rows (Some date) v → AnswersCopy new blocks s v date (store_stored_on g more) (Ok found)
    done_answers g more found none is_done idle rows = (sym refusal_same ∙ none, rows, (λ i. record { store = (is_done ∙ is) i; running = idle i }))

-- what was built makes such a store
module _ (h : Held) (built : Built) (date : ℕ) (v : VolumeState) (bytes : ℕ → List ℕ) where
  abbrev pub mark_of : Mark
  mark_of = record { generation = v.generation; cursor = v.contents.next - 1 }

  abbrev pub finished_as : StoreState
  finished_as = store_completed h built date v.name v.id mark_of bytes

  abbrev tree_of : LabelledTree
  tree_of = (snapshot_on (files_built h built bytes) (all_nodes h built) (snapshot_built h built date v.name v.id mark_of)).tree

  pub may_finish_as : (s : StoreState) → store_on h bytes ≡ s → (Fits (Some v) (Some s) → finished_as ≡ backed_up s v date) → MayFinishAs s v date finished_as
  may_finish_as s state exact = record {
    tree = tree_of;
    is = ap (λ (x : StoreState). backed_with tree_of x v date) state;
    exact = exact;
  }

-- a copy that doesn't come to its end
pub may_be_plain : (s : StoreState) (v : VolumeState) (date : ℕ) → MayFinishAs s v date (backed_up s v date)
may_be_plain s v date = record { tree = copy_of s v; is = refl; exact = λ fits. refl }

pub runs_alone : (P : Disk → Type 0) (start end : Log) → Runs StoreSide P start end → Runs StoreSide (λ _. Unit {0}) start end
runs_alone P start end runs = Runs-weaker StoreSide P (λ _. Unit {0}) start end (λ d p. tt) runs
