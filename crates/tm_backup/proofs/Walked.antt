-- A folder that is walked: it is listed, its files are staged, and its entries are made.
use Rattle.std.proofs.Common.{◌≡◌, ℕ, ◌+◌, Bool, true, false, if◌then◌else◌, Option, Some, None, List, [], ◌∷◌, ◌++◌, length, map, Result, Ok, Err, IfOk, refl, sym, ap, ◌∙◌, subst, arith}
use Rattle.std.specs.Result.{OnOk}
use Rattle.std.specs.List.{flat_map, sum}
use Rattle.tm_base.specs.Paths.{Names}
use Rattle.tm_base.specs.declared.refused.LineFault.{LineFault}
use Rattle.tm_blockmap.specs.Counts.{times}
use Rattle.tm_world.specs.Log.{Log, now}
use Rattle.tm_graph.specs.Nodes.{IsGraph}
use Rattle.tm_tree.specs.declared.attrs.Attrs.{Attrs}
use Rattle.tm_tree.specs.declared.listing.ListRow.{ListRow}
use Rattle.tm_tree.specs.declared.node.Child.{Child}
use Rattle.tm_tree.specs.declared.node.LeafRow.TheVariants.{Link}
use Rattle.tm_tree.specs.declared.node.NodeBody.{NodeBody}
use Rattle.tm_tree.specs.declared.node.NodeBody.TheVariants.{Folder, Leaf}
use Rattle.tm_tree.specs.Listings.{listing}
use Rattle.tm_tree.specs.Trees.{Tree, IsTree, folder_at}
use Rattle.tm_tree.proofs.ViewsKept.{view_kept}
use Rattle.tm_world.specs.declared.bytes.Blob.{Blob}
use Rattle.tm_image.specs.Room.{free_of}
use Rattle.tm_store_records.specs.Held.{Held}
use Rattle.tm_volume.specs.Bounds.{KeptIsTree}
use Rattle.tm_volume.specs.Seen.{Seen, IsKept, tree_on}
use Rattle.tm_copy.specs.Keeping.{kept_folder, kept_link}
use Rattle.tm_copy.specs.Driving.{base_child}
use Rattle.tm_copy.specs.Making.{Making, with_file, next_number, Adds}
use Rattle.tm_copy.specs.Building.{Backup, next, IsSound, AreNew, Builds}
use Rattle.tm_backup.specs.declared.stage.EntryPlan.{EntryPlan}
use Rattle.tm_backup.specs.declared.stage.EntryPlan.TheVariants as plan
use Rattle.tm_backup.specs.declared.stage.PlannedEntry.{PlannedEntry}
use Rattle.tm_backup.specs.Answers.{Stages}
use Rattle.tm_backup.specs.Growing.{Suits, Grows, counted, folders_from, staging_from}
use Rattle.tm_backup.specs.EntryPlans.{plan_head, row_head, owed, plan_blocks, is_folder_plan, IsPlanned, IsPlanFor, ArePlanned}
use Rattle.tm_backup.specs.Steps.{MayGo, Ran, Went, store_bytes}
use Rattle.tm_backup.specs.Taking.{view_on, prev_on, backup_of}
use Rattle.tm_backup.specs.Walk.{staging_in, first_full}
use Rattle.tm_backup.specs.Walking.{entry_folders, entry_staging, IsBegun, MayEnterAll, FolderGrows, EntryGrows, EntriesGrow}
use Rattle.tm_backup.proofs.Entering.{begun_later, begun_now, counted_then, enter_all}
use Rattle.tm_backup.proofs.Folding.{table_of}
use Rattle.tm_backup.proofs.Growth.{plan_kept, plan_link, plan_file}
use Rattle.tm_backup.proofs.Keeping.{sound_of}
use Rattle.tm_backup.proofs.Looks.{Listed, view_listed}
use Rattle.tm_backup.proofs.Planning.{entry_suits}
use Rattle.tm_backup.proofs.Staging.{stages_err}
use Rattle.tm_backup.proofs.Stepping.{went_none, ran_then, went_then, may_then}
use Rattle.tm_backup.proofs.FolderWalk.{ran_listed, stages_whole, stages_front, folders_split, folder_now, folder_grows}

-- a node that is kept or made leaves the making begun
pub begun_adds : (s : Held) (o : Option ℕ) (old new : Making) (body : NodeBody) (k : ℕ) → Adds o old body new k → IsBegun s old → IsBegun s new
begun_adds s (Some j) old new body k adds h = subst (IsBegun s) (sym adds.1) h
begun_adds s None old new body k adds h = subst (IsBegun s) (sym adds.1) (record { label = h.label; first = h.first })

-- the view of a volume is a tree
pub views_kept : KeptIsTree → (v : Seen) → IsKept v → (bytes : ℕ → List ℕ) → IsTree (view_on v bytes)
views_kept kept_is_tree v kept bytes = view_kept v.fixed (tree_on v bytes) (kept_is_tree v bytes kept)

-- ---- a folder

-- a volume was listed
module _ {told : Type 0} {v w : Seen} {s : Held} {a0 b0 : ℕ} (l : Log) (may : MayGo told v s (now l) a0 b0) (is : Listed v w) where
  pub may_listed : MayGo told w s (now l) a0 b0
  may_listed = may_then told v w s s l l a0 b0 may (ran_listed told v w s l is) (went_none told v s l a0 b0 may)

-- the folder at p was listed, and then the files in it were staged
pub record IsStaged (told : Type 0) (v w : Seen) (s t : Held) (l m : Log) (a0 b0 : ℕ) (p : Names) (attrs : Attrs) (rows : List ListRow) (planned : List PlannedEntry) : Type 0 where
  pub may : MayGo told v s (now l) a0 b0
  pub is : Listed v w
  pub ran : Ran told w w s t l m
  pub went : Went told s t l m
  pub trees : (bytes : ℕ → List ℕ) → IsTree (view_on v bytes)
  pub lists : (bytes : ℕ → List ℕ) → listing (view_on v bytes) p ≡ Some (record { attrs = attrs; rows = rows })
  pub heads : map plan_head planned ≡ map row_head rows

module _ {told : Type 0} {v w : Seen} {s t : Held} {l m : Log} {a0 b0 : ℕ} (p : Names) (attrs : Attrs) (rows : List ListRow) (planned : List PlannedEntry) where
  pub is_staged : KeptIsTree → MayGo told v s (now l) a0 b0 → Listed v w → Ran told w w s t l m → Went told s t l m
      → ((bytes : ℕ → List ℕ) → listing (view_on v bytes) p ≡ Some (record { attrs = attrs; rows = rows })) → map plan_head planned ≡ map row_head rows → IsStaged told v w s t l m a0 b0 p attrs rows planned
  is_staged tree may is ran went lists heads = record { may = may; is = is; ran = ran; went = went; trees = views_kept tree v may.kept; lists = lists; heads = heads }

module _ {told : Type 0} {v w : Seen} {s t : Held} {l m : Log} {a0 b0 : ℕ} {p : Names} {attrs : Attrs} {rows : List ListRow} {planned : List PlannedEntry} (f : IsStaged told v w s t l m a0 b0 p attrs rows planned) where
  may_now : MayGo told w s (now l) a0 b0
  may_now = may_listed l f.may f.is

  pub may_staged : MayGo told w t (now m) a0 b0
  may_staged = may_then told w w s t l m a0 b0 may_now f.ran f.went

  pub enter_staged : (base : Option ℕ) → MayEnterAll w s.nodes p base planned → MayEnterAll w t.nodes p base planned
  enter_staged base enter = enter_all told w w s t l m p base planned f.ran f.went enter

  pub begun_staged : {old : Making} → IsBegun s old → IsBegun t old
  begun_staged {old} begun = begun_later told s t l m old f.went begun

  pub ran_whole : {x : Seen} {u : Held} {n : Log} → Ran told w x t u m n → Ran told v x s u l n
  ran_whole {x} {u} {n} more = ran_then told v w s s l l a0 b0 f.may (ran_listed told v w s l f.is) (went_none told v s l a0 b0 f.may) x u n (ran_then told w w s t l m a0 b0 may_now f.ran f.went x u n more)

  pub went_whole : {u : Held} {n : Log} → Went told t u m n → Went told s u l n
  went_whole {u} {n} more = went_then told w w s t l m a0 b0 may_now f.ran f.went u n more

  -- ---- seen from the volume as it was

  same : (bytes : ℕ → List ℕ) → view_on w bytes ≡ view_on v bytes
  same bytes = view_listed v w w.looks f.is bytes

  trees_now : (bytes : ℕ → List ℕ) → IsTree (view_on w bytes)
  trees_now bytes = subst IsTree (sym (same bytes)) (f.trees bytes)

  lists_now : (bytes : ℕ → List ℕ) → listing (view_on w bytes) p ≡ Some (record { attrs = attrs; rows = rows })
  lists_now bytes = ap (λ (tree : Tree). listing tree p) (same bytes) ∙ f.lists bytes

  pub folder_stages : {A : Type 0} (base : Option ℕ) (u : Held) (r : Result A LineFault)
      → ((root : Option ℕ) (files bytes : ℕ → List ℕ) → Suits told s l p base root bytes
      → (first_full (table_of s) (free_of s.image) (staging_in (prev_on s files root) (view_on w bytes) p) ≡ None) × (free_of t.image + sum (staging_in (prev_on s files root) (view_on w bytes) p) ≡ free_of s.image))
      → ((root : Option ℕ) (files bytes : ℕ → List ℕ) → Suits told t m p base root bytes → Stages (table_of t) (free_of t.image) (free_of u.image) (flat_map (entry_staging (prev_on t files root) (view_on w bytes) p) planned) r)
      → (root : Option ℕ) (files bytes : ℕ → List ℕ) → Suits told s l p base root bytes → Stages (table_of s) (free_of s.image) (free_of u.image) (staging_from (prev_on s files root) (view_on v bytes) p) r
  folder_stages base u r first second root files bytes suits =
      subst (λ (tree : Tree). Stages (table_of s) (free_of s.image) (free_of u.image) (staging_from (prev_on s files root) tree p) r) (same bytes)
      (stages_whole told w s t l m a0 b0 may_now p base rows attrs planned trees_now lists_now f.heads f.ran f.went u r first second root files bytes suits)

  pub stuck_whole : {A : Type 0} (base : Option ℕ) (u : Held) {r : Result A LineFault} {e : LineFault} → r ≡ Err e
      → ((root : Option ℕ) (files bytes : ℕ → List ℕ) → Suits told s l p base root bytes
      → (first_full (table_of s) (free_of s.image) (staging_in (prev_on s files root) (view_on w bytes) p) ≡ None) × (free_of t.image + sum (staging_in (prev_on s files root) (view_on w bytes) p) ≡ free_of s.image))
      → ((root : Option ℕ) (files bytes : ℕ → List ℕ) → Suits told t m p base root bytes → Stages {A = List Child} (table_of t) (free_of t.image) (free_of u.image) (flat_map (entry_staging (prev_on t files root) (view_on w bytes) p) planned) (Err e))
      → (root : Option ℕ) (files bytes : ℕ → List ℕ) → Suits told s l p base root bytes → Stages (table_of s) (free_of s.image) (free_of u.image) (staging_from (prev_on s files root) (view_on v bytes) p) r
  stuck_whole base u {r} {e} is first second root files bytes suits =
      let all = staging_from (prev_on s files root) (view_on v bytes) p in
      stages_err (List Child) (table_of s) (free_of s.image) (free_of u.image) all all r e is refl (folder_stages {A = List Child} base u (Err e) first second root files bytes suits)

  pub folder_counts : (walked0 walked1 count : ℕ) → walked1 ≡ counted walked0 1 → ((bytes : ℕ → List ℕ) → counted count 0 ≡ counted walked1 (length (flat_map (entry_folders (view_on w bytes) p) planned)))
      → (bytes : ℕ → List ℕ) → counted count 0 ≡ counted walked0 (length (folders_from (view_on v bytes) p))
  folder_counts walked0 walked1 count one more bytes =
      let below = flat_map (entry_folders (view_on w bytes) p) planned in
      let all : length (folders_from (view_on w bytes) p) ≡ 1 + length below = omega (arith, ap length (folders_split (view_on w bytes) p (trees_now bytes) attrs rows planned (lists_now bytes) f.heads)) in
      more bytes ∙ ap (λ k. counted k (length below)) one ∙ counted_then walked0 1 (length below) ∙ ap (counted walked0) (sym all)
      ∙ ap (λ (tree : Tree). counted walked0 (length (folders_from tree p))) (same bytes)

  module _ {u : Held} {n : Log} (base : Option ℕ) (old mid new : Making) (entries : List Child) (node : ℕ) (more : Went told t u m n) (grows : EntriesGrow told t u w m n p base planned old mid entries)
      (names_are : map (λ (c : Child). c.name) entries ≡ map (λ (y : PlannedEntry). y.name) planned) (due : (k : ℕ) → times k t.staged ≡ times k s.staged + owed planned k)
      (plans : (root : Option ℕ) (files bytes : ℕ → List ℕ) → Suits told s l p base root bytes → ArePlanned told (backup_of s files root (view_on w bytes)) (store_bytes m) p planned)
      (begun : IsBegun t mid) (adds : Adds (kept_folder u.nodes base attrs entries) mid (Folder attrs entries) new node) where
    pub folder_made : FolderGrows told s u v l n p base old new node
    folder_made = folder_grows told v w s u l n p base old new node f.is (λ root files bytes fresh suits are.
        folder_now told w s t l m a0 b0 may_now p base rows attrs planned trees_now lists_now f.heads f.ran f.went u n old mid new entries node grows names_are due plans
        (ap (λ (h : Held). h.nodes) (went_whole more).same) (begun_now told s t l m mid f.went begun) adds root files bytes fresh suits are)

    pub folder_begun : IsBegun s new
    folder_begun = begun_adds s (kept_folder u.nodes base attrs entries) mid new (Folder attrs entries) node adds (begun_now told s t l m mid f.went begun)

-- its files couldn't be staged
pub staged_err : {A : Type 0} (told : Type 0) (v w : Seen) (s u : Held) (l : Log) (p : Names) (base : Option ℕ) (is : Listed v w) {r : Result A LineFault} {e : LineFault}
    → ((bytes : ℕ → List ℕ) → IsTree (view_on v bytes)) → ((bytes : ℕ → List ℕ) → folder_at (view_on v bytes) p ≡ true) → r ≡ Err e
    → ((root : Option ℕ) (files bytes : ℕ → List ℕ) → Suits told s l p base root bytes → Stages {A = List PlannedEntry} (table_of s) (free_of s.image) (free_of u.image) (staging_in (prev_on s files root) (view_on w bytes) p) (Err e))
    → (root : Option ℕ) (files bytes : ℕ → List ℕ) → Suits told s l p base root bytes → Stages (table_of s) (free_of s.image) (free_of u.image) (staging_from (prev_on s files root) (view_on v bytes) p) r
staged_err told v w s u l p base is {r} {e} trees folder err h root files bytes suits =
    stages_front (List PlannedEntry) (view_on v bytes) p (prev_on s files root) (table_of s) (free_of s.image) (free_of u.image) r e (trees bytes) (folder bytes) err
    (subst (λ (tree : Tree). Stages {A = List PlannedEntry} (table_of s) (free_of s.image) (free_of u.image) (staging_in (prev_on s files root) tree p) (Err e)) (view_listed v w w.looks is bytes) (h root files bytes suits))

-- ---- an entry

-- the walk is about to make this entry of the folder at p
pub record MayMake (told : Type 0) (v : Seen) (s : Held) (l : Log) (p : Names) (base : Option ℕ) (x : PlannedEntry) (old : Making) : Type 0 where
  pub graph : IsGraph s.nodes
  pub trees : (bytes : ℕ → List ℕ) → IsTree (view_on v bytes)
  pub begun : IsBegun s old

module _ {told : Type 0} {v : Seen} {s : Held} {a0 b0 : ℕ} {old : Making} (l : Log) (p : Names) (base : Option ℕ) (x : PlannedEntry) where
  pub may_make : KeptIsTree → MayGo told v s (now l) a0 b0 → IsBegun s old → MayMake told v s l p base x old
  may_make tree may begun = record { graph = may.graph; trees = views_kept tree v may.kept; begun = begun }

module _ {told : Type 0} {v : Seen} {s : Held} {l : Log} {p : Names} {base : Option ℕ} {x : PlannedEntry} {old : Making} (f : MayMake told v s l p base x old) where
  module _ (root : Option ℕ) (files bytes : ℕ → List ℕ) (suits : Suits told s l p base root bytes) where
    abbrev b : Backup
    b = backup_of s files root (view_on v bytes)

    sound : IsSound b
    sound = sound_of s files root (view_on v bytes) f.graph suits.based (f.trees bytes)

    pub kept_entry : (fresh : ℕ → List ℕ) (n : ℕ) → x.plan ≡ plan.Kept n → AreNew b old.nodes → IsPlanned told b (store_bytes l) p x
        → Grows told b (store_bytes l) old old (λ k. times k (plan_blocks x.plan)) s.staged s.staged fresh (λ other. Builds b old.nodes other (next b old.nodes) (next b old.nodes) (p ++ x.name ∷ []) n)
    kept_entry fresh n is are planned =
        let q = p ++ x.name ∷ [] in
        subst (λ (y : EntryPlan). Grows told b (store_bytes l) old old (λ k. times k (plan_blocks y)) s.staged s.staged fresh (λ other. Builds b old.nodes other (next b old.nodes) (next b old.nodes) q n)) (sym is)
        (plan_kept told b sound (store_bytes l) old s.staged fresh f.begun.label f.begun.first are q n (subst (IsPlanFor told b (store_bytes l) q) is planned.plan))

    pub link_entry : (fresh : ℕ → List ℕ) (attrs : Attrs) (stamp : ℕ) (target : List ℕ) (new : Making) (n : ℕ) → x.plan ≡ plan.Link attrs stamp target → AreNew b old.nodes → IsPlanned told b (store_bytes l) p x
        → Adds (kept_link s.nodes x.base stamp) old (Leaf (Link attrs stamp target)) new n
        → Grows told b (store_bytes l) old new (λ k. times k (plan_blocks x.plan)) s.staged s.staged fresh (λ other. Builds b new.nodes other (next b old.nodes) (next b new.nodes) (p ++ x.name ∷ []) n)
    link_entry fresh attrs stamp target new n is are planned adds =
        let q = p ++ x.name ∷ [] in
        subst (λ (y : EntryPlan). Grows told b (store_bytes l) old new (λ k. times k (plan_blocks y)) s.staged s.staged fresh (λ other. Builds b new.nodes other (next b old.nodes) (next b new.nodes) q n)) (sym is)
        (plan_link told b sound (store_bytes l) old s.staged fresh f.begun.label f.begun.first are q attrs stamp target new n (subst (IsPlanFor told b (store_bytes l) q) is planned.plan)
        (subst (λ (o : Option ℕ). Adds (kept_link s.nodes o stamp) old (Leaf (Link attrs stamp target)) new n) planned.base adds))

    pub file_entry : (fresh : ℕ → List ℕ) (attrs : Attrs) (stamp : ℕ) (blob : Blob) (new : Making) (n : ℕ) → x.plan ≡ plan.File attrs stamp blob → AreNew b old.nodes → IsPlanned told b (store_bytes l) p x
        → n ≡ next_number old → new ≡ with_file old attrs stamp blob
        → Grows told b (store_bytes l) old new (λ k. times k (plan_blocks x.plan)) s.staged s.staged fresh (λ other. Builds b new.nodes other (next b old.nodes) (next b new.nodes) (p ++ x.name ∷ []) n)
    file_entry fresh attrs stamp blob new n is are planned number new_is =
        let q = p ++ x.name ∷ [] in
        subst (λ (y : EntryPlan). Grows told b (store_bytes l) old new (λ k. times k (plan_blocks y)) s.staged s.staged fresh (λ other. Builds b new.nodes other (next b old.nodes) (next b new.nodes) q n)) (sym is)
        (subst (λ (y : Making). Grows told b (store_bytes l) old y (λ k. times k blob.blocks) s.staged s.staged fresh (λ other. Builds b y.nodes other (next b old.nodes) (next b y.nodes) q n)) (sym new_is)
        (plan_file told b sound (store_bytes l) old s.staged fresh f.begun.label f.begun.first are q attrs stamp blob (subst (IsPlanFor told b (store_bytes l) q) is planned.plan) n number))

  -- a folder
  module _ (is : x.plan ≡ plan.Folder) (place : Names) (place_is : place ≡ p ++ x.name ∷ []) (below_is : x.base ≡ base_child s.nodes base x.name) where
    suits_there : (root : Option ℕ) (files bytes : ℕ → List ℕ) → Suits told s l p base root bytes → Suits told s l place x.base root bytes
    suits_there root files bytes suits =
        subst (λ (q : Names). Suits told s l q x.base root bytes) (sym place_is) (entry_suits told s v l p base root files bytes f.graph (f.trees bytes) suits x.name x.base below_is)

    pub folder_entry : (u : Held) (n : Log) (new : Making) (node : ℕ) → FolderGrows told s u v l n place x.base old new node → EntryGrows told s u v l n p base x old new node
    folder_entry u n new node grows root files bytes fresh suits are planned =
        let c = backup_of s files root (view_on v bytes) in
        subst (λ (y : EntryPlan). Grows told c (store_bytes n) old new (λ k. times k (plan_blocks y)) s.staged u.staged fresh (λ other. Builds c new.nodes other (next c old.nodes) (next c new.nodes) (p ++ x.name ∷ []) node)) (sym is)
        (subst (λ (q : Names). Grows told c (store_bytes n) old new (λ k. 0) s.staged u.staged fresh (λ other. Builds c new.nodes other (next c old.nodes) (next c new.nodes) q node)) place_is
        (grows root files bytes fresh (suits_there root files bytes suits) are))

    pub entry_grows : (u : Held) (n : Log) (new : Making) (r : Result ℕ LineFault) → IfOk r (λ node. FolderGrows told s u v l n place x.base old new node) → IfOk r (λ node. EntryGrows told s u v l n p base x old new node)
    entry_grows u n new (Ok node) h = folder_entry u n new node h
    entry_grows u n new (Err e) h = tt

    pub entry_stages : (u : Held) (r : Result ℕ LineFault)
        → ((root : Option ℕ) (files bytes : ℕ → List ℕ) → Suits told s l place x.base root bytes → Stages (table_of s) (free_of s.image) (free_of u.image) (staging_from (prev_on s files root) (view_on v bytes) place) r)
        → (root : Option ℕ) (files bytes : ℕ → List ℕ) → Suits told s l p base root bytes → Stages (table_of s) (free_of s.image) (free_of u.image) (entry_staging (prev_on s files root) (view_on v bytes) p x) r
    entry_stages u r h root files bytes suits =
        subst (λ (y : EntryPlan). Stages (table_of s) (free_of s.image) (free_of u.image) (if is_folder_plan y then staging_from (prev_on s files root) (view_on v bytes) (p ++ x.name ∷ []) else []) r) (sym is)
        (subst (λ (q : Names). Stages (table_of s) (free_of s.image) (free_of u.image) (staging_from (prev_on s files root) (view_on v bytes) q) r) place_is
        (h root files bytes (suits_there root files bytes suits)))

    pub entry_counts : (walked0 walked : ℕ) (r : Result ℕ LineFault) (bytes : ℕ → List ℕ) → OnOk r (counted walked 0 ≡ counted walked0 (length (folders_from (view_on v bytes) place)))
        → OnOk r (counted walked 0 ≡ counted walked0 (length (entry_folders (view_on v bytes) p x)))
    entry_counts walked0 walked (Ok node) bytes h =
        h ∙ ap (λ (q : Names). counted walked0 (length (folders_from (view_on v bytes) q))) place_is
        ∙ ap (λ (y : EntryPlan). counted walked0 (length (if is_folder_plan y then folders_from (view_on v bytes) (p ++ x.name ∷ []) else []))) (sym is)
    entry_counts walked0 walked (Err e) bytes h = tt

-- no folders beneath
pub no_counts : (v : Seen) (p : Names) (name : List ℕ) (below : Option ℕ) (made : EntryPlan) (walked : ℕ) → is_folder_plan made ≡ false → (bytes : ℕ → List ℕ)
    → counted walked 0 ≡ counted walked (length (entry_folders (view_on v bytes) p (record { name = name; base = below; plan = made })))
no_counts v p name below made walked is bytes = ap (λ (k : Bool). counted walked (length (if k then folders_from (view_on v bytes) (p ++ name ∷ []) else []))) (sym is)
