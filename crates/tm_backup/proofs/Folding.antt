-- The entries of a folder, planned one after another.
use Rattle.std.proofs.Common.{◌≡◌, ℕ, ◌+◌, ◌<◌, Bool, true, false, Option, Some, None, is_some, List, [], ◌∷◌, ◌++◌, length, map, get_or, not, ◌&&◌, if◌then◌else◌, Result, Ok, Err, refl, sym, ap, ◌∙◌, subst, arith, append_assoc}
use Rattle.std.specs.List.{All, flat_map}
use Rattle.std.proofs.lemmas.List.{map-append}
use Rattle.std.proofs.lemmas.List.Elements.{All-head, All-tail}
use Rattle.std.proofs.lemmas.List.Folds.{flat_map-map}
use Rattle.std.proofs.lemmas.List.Sums.{sum_by-append, sum_by-cons}
use Rattle.tm_base.specs.declared.refused.LineFault.{LineFault}
use Rattle.tm_base.specs.Paths.{Names}
use Rattle.tm_blockmap.specs.Counts.{times}
use Rattle.tm_chain.specs.Blob.{blob_len}
use Rattle.tm_world.specs.Log.{Log, now}
use Rattle.tm_graph.specs.Nodes.{Nodes, node}
use Rattle.tm_tree.specs.declared.listing.ListRow.{ListRow}
use Rattle.tm_tree.specs.declared.attrs.Attrs.{Attrs}
use Rattle.tm_tree.specs.declared.item.Item.{Item}
use Rattle.tm_tree.specs.declared.item.Item.TheVariants as item
use Rattle.tm_tree.specs.Items.{is_file, bytes_of}
use Rattle.tm_tree.specs.Copies.{LabelledTree, bare}
use Rattle.tm_tree.specs.Listings.{listed, list_rows}
use Rattle.tm_tree.specs.Trees.{Tree, IsTree, item_at, children}
use Rattle.tm_image.specs.Room.{free_of}
use Rattle.tm_store_records.specs.Held.{Held}
use Rattle.tm_store_records.specs.Room.{store_blocks}
use Rattle.tm_volume.specs.Seen.{Seen}
use Rattle.tm_copy.specs.Copying.{node_under}
use Rattle.tm_copy.specs.Listed.{StandsAs}
use Rattle.tm_copy.specs.Building.{Backup}
use Rattle.tm_backup.specs.declared.stage.PlannedEntry.{PlannedEntry}
use Rattle.tm_backup.specs.declared.stage.EntryPlan.{EntryPlan}
use Rattle.tm_backup.specs.declared.stage.EntryPlan.TheVariants as plan
use Rattle.tm_backup.specs.Answers.{Stages}
use Rattle.tm_backup.specs.Growing.{Suits}
use Rattle.tm_backup.specs.EntryPlans.{plan_head, row_head, is_file_as_was, kind_blocks, row_blocks, plan_blocks, owed, IsPlanFor, IsPlanned, ArePlanned}
use Rattle.tm_backup.specs.Steps.{MayGo, Ran, Went, store_bytes}
use Rattle.tm_backup.specs.Taking.{view_on, prev_on, backup_of}
use Rattle.tm_backup.specs.Walk.{is_as_was, new_blocks, staging_in}
use Rattle.tm_backup.specs.Walking.{MayEnter, MayEnterAll}
use Rattle.tm_backup.proofs.Rows.{row_of, are_entries}
use Rattle.tm_backup.proofs.Bytes.{held_same}
use Rattle.tm_backup.proofs.Staging.{Onward, onward_start, onward_next, onward_err}
use Rattle.tm_backup.proofs.Stepping.{ran_none, went_none, ran_then, went_then, volume_same}

-- ---- what stays the same of the store

module _ (told : Type 0) (s t : Held) (l m : Log) (went : Went told s t l m) where
  pub nodes_same : t.nodes ≡ s.nodes
  nodes_same = ap (λ (h : Held). h.nodes) went.same

  pub backup_same : (files : ℕ → List ℕ) (root : Option ℕ) (tree : Tree) → backup_of t files root tree ≡ backup_of s files root tree
  backup_same files root tree = ap (λ (h : Held). backup_of h files root tree) went.same

  pub table_same : store_blocks t.machine t.snapshots t.nodes ≡ store_blocks s.machine s.snapshots s.nodes
  table_same = ap (λ (h : Held). store_blocks h.machine h.snapshots h.nodes) went.same

  -- and of a backup
  pub suits_then : (v w : Seen) (a b : ℕ) → MayGo told v s (now l) a b → Ran told v w s t l m → (p : Names) (base root : Option ℕ) (bytes : ℕ → List ℕ) → Suits told s l p base root bytes → Suits told t m p base root bytes
  suits_then v w a b may ran p base root bytes suits = record {
    read = λ y. suits.read y ∙ sym (volume_same told v w s t l m a b may ran y);
    based = λ r is. subst (λ (n : Nodes). is_some (node n r) ≡ true) (sym nodes_same) (suits.based r is);
    here = suits.here ∙ ap (λ (n : Nodes). node_under n root p) (sym nodes_same);
  }

-- ---- planned entries

-- the bytes of staged blobs stay
plan_stays : (told : Type 0) (b : Backup) (x y : ℕ → List ℕ) (q : Names) (p : EntryPlan) → (told → (k : ℕ) → 0 < times k (plan_blocks p) → y k ≡ x k) → IsPlanFor told b x q p → IsPlanFor told b y q p
plan_stays told b x y q (plan.Kept n) same h = h
plan_stays told b x y q (plan.File attrs stamp blob) same h =
    (h.0, h.1, h.2, h.3, h.4, h.5, λ t. held_same blob.blocks y x blob.length h.5 (same t) ∙ h.6 t)
plan_stays told b x y q (plan.Link attrs stamp target) same h = h
plan_stays told b x y q plan.Folder same h = h

pub owed-cons : (x : PlannedEntry) (entries : List PlannedEntry) (k : ℕ) → owed (x ∷ entries) k ≡ times k (plan_blocks x.plan) + owed entries k
owed-cons x entries k = sum_by-cons (λ (y : PlannedEntry). times k (plan_blocks y.plan)) x entries

pub owed-push : (entries : List PlannedEntry) (x : PlannedEntry) (k : ℕ) → owed (entries ++ x ∷ []) k ≡ owed entries k + times k (plan_blocks x.plan)
owed-push entries x k = sum_by-append (λ (y : PlannedEntry). times k (plan_blocks y.plan)) entries (x ∷ []) ∙ omega (arith, owed-cons x [] k)

pub plans_stay : (told : Type 0) (b : Backup) (x y : ℕ → List ℕ) (p : Names) (entries : List PlannedEntry) → (told → (k : ℕ) → 0 < owed entries k → y k ≡ x k) → ArePlanned told b x p entries → ArePlanned told b y p entries
plans_stay told b x y p [] same h = tt
plans_stay told b x y p (e ∷ entries) same h = (
  record { base = h.0.base; plan = plan_stays told b x y (p ++ e.name ∷ []) e.plan (λ t k some. same t k (omega (arith, some, owed-cons e entries k))) h.0.plan },
  plans_stay told b x y p entries (λ t k some. same t k (omega (arith, some, owed-cons e entries k))) h.1,
)

plans_push : (told : Type 0) (b : Backup) (x : ℕ → List ℕ) (p : Names) (entries : List PlannedEntry) (e : PlannedEntry) → ArePlanned told b x p entries → IsPlanned told b x p e → ArePlanned told b x p (entries ++ e ∷ [])
plans_push told b x p [] e h g = (g, tt)
plans_push told b x p (d ∷ entries) e h g = (h.0, plans_push told b x p entries e h.1 g)

enter_push : (v : Seen) (g : Nodes) (p : Names) (base : Option ℕ) (entries : List PlannedEntry) (e : PlannedEntry) → MayEnterAll v g p base entries → MayEnter v g p base e → MayEnterAll v g p base (entries ++ e ∷ [])
enter_push v g p base [] e h may = (may, tt)
enter_push v g p base (d ∷ entries) e h may = (h.0, enter_push v g p base entries e h.1 may)

pub no_items : {X : Type 0} (xs : List X) → length xs ≡ 0 → xs ≡ []
no_items [] h = refl
no_items (x ∷ xs) h = absurd (omega (arith, h))

-- ---- the loop

-- the rows that are left stand in the view
abbrev pub RowsShown : Seen → Names → List ListRow → Type 0
RowsShown v p rows = (bytes : ℕ → List ℕ) → All (λ row. StandsAs (view_on v bytes) (p ++ row.name ∷ []) row.kind) rows

abbrev pub table_of : Held → ℕ
table_of s = store_blocks s.machine s.snapshots s.nodes

-- how far the entries of a folder were planned
pub record SoFar (told : Type 0) (v : Seen) (s t : Held) (l m : Log) (p : Names) (base : Option ℕ) (rows left : List ListRow) (planned : List PlannedEntry) : Type 0 where
  pub ran : Ran told v v s t l m
  pub went : Went told s t l m
  pub stages : (root : Option ℕ) (files bytes : ℕ → List ℕ) → Suits told s l p base root bytes
      → Onward (table_of s) (free_of s.image) (free_of t.image) (flat_map (row_blocks (prev_on s files root) p) rows) (flat_map (row_blocks (prev_on s files root) p) left)
  pub plans : (root : Option ℕ) (files bytes : ℕ → List ℕ) → Suits told s l p base root bytes → ArePlanned told (backup_of s files root (view_on v bytes)) (store_bytes m) p planned
  pub heads : map plan_head planned ++ map row_head left ≡ map row_head rows
  pub enter : MayEnterAll v s.nodes p base planned
  pub due : (k : ℕ) → times k t.staged ≡ times k s.staged + owed planned k
  pub rest : RowsShown v p left

module _ (told : Type 0) (v : Seen) (s : Held) (l : Log) (a b : ℕ) (may : MayGo told v s (now l) a b) (p : Names) (base : Option ℕ) (rows : List ListRow) where
  pub so_far_start : RowsShown v p rows → SoFar told v s s l l p base rows rows []
  so_far_start shown = record {
    ran = ran_none told v s l;
    went = went_none told v s l a b may;
    stages = λ root files bytes suits. onward_start (table_of s) (free_of s.image) (flat_map (row_blocks (prev_on s files root) p) rows);
    plans = λ root files bytes suits. tt;
    heads = refl;
    enter = tt;
    due = λ k. omega arith;
    rest = shown;
  }

  -- one entry more
  module _ (t : Held) (m : Log) (row : ListRow) (left : List ListRow) (planned : List PlannedEntry) (far : SoFar told v s t l m p base rows (row ∷ left) planned) where
    pub suits_now : (root : Option ℕ) (bytes : ℕ → List ℕ) → Suits told s l p base root bytes → Suits told t m p base root bytes
    suits_now root bytes suits = suits_then told s t l m far.went v v a b may far.ran p base root bytes suits

    module _ (u : Held) (n : Log) (x : PlannedEntry) (ran : Ran told v v t u m n) (went : Went told t u m n)
        (stages : (root : Option ℕ) (files bytes : ℕ → List ℕ) → Suits told t m p base root bytes → Stages {A = PlannedEntry} (table_of t) (free_of t.image) (free_of u.image) (row_blocks (prev_on t files root) p row) (Ok x))
        (plans : (root : Option ℕ) (files bytes : ℕ → List ℕ) → Suits told t m p base root bytes → IsPlanned told (backup_of t files root (view_on v bytes)) (store_bytes n) p x)
        (head : plan_head x ≡ row_head row) (enter : MayEnter v t.nodes p base x) (due : (k : ℕ) → times k u.staged ≡ times k t.staged + times k (plan_blocks x.plan)) where
      pub so_far_next : SoFar told v s u l n p base rows left (planned ++ x ∷ [])
      so_far_next = record {
        ran = ran_then told v v s t l m a b may far.ran far.went v u n ran;
        went = went_then told v v s t l m a b may far.ran far.went u n went;
        stages = λ root files bytes suits. next_blocks root files bytes suits;
        plans = λ root files bytes suits.
            let b = backup_of s files root (view_on v bytes) in
            let here = suits_now root bytes suits in
            let new : IsPlanned told b (store_bytes n) p x = subst (λ (c : Backup). IsPlanned told c (store_bytes n) p x) (backup_same told s t l m far.went files root (view_on v bytes)) (plans root files bytes here) in
            plans_push told b (store_bytes n) p planned x (plans_stay told b (store_bytes m) (store_bytes n) p planned (λ y k some. went.others y k (omega (arith, some, far.due k))) (far.plans root files bytes suits)) new;
        heads = ap (λ (hs : List _). hs ++ map row_head left) (map-append plan_head planned (x ∷ [])) ∙ append_assoc (map plan_head planned) (plan_head x ∷ []) (map row_head left)
            ∙ ap (λ h. map plan_head planned ++ h ∷ map row_head left) head ∙ far.heads;
        enter = enter_push v s.nodes p base planned x far.enter (subst (λ (g : Nodes). MayEnter v g p base x) (nodes_same told s t l m far.went) enter);
        due = λ k. omega (arith, due k, far.due k, owed-push planned x k);
        rest = λ bytes. All-tail (λ row. StandsAs (view_on v bytes) (p ++ row.name ∷ []) row.kind) row left (far.rest bytes);
      }
        where
          next_blocks : (root : Option ℕ) (files bytes : ℕ → List ℕ) → Suits told s l p base root bytes
              → Onward (table_of s) (free_of s.image) (free_of u.image) (flat_map (row_blocks (prev_on s files root) p) rows) (flat_map (row_blocks (prev_on s files root) p) left)
          next_blocks root files bytes suits =
              let here : Stages {A = PlannedEntry} (table_of s) (free_of t.image) (free_of u.image) (row_blocks (prev_on s files root) p row) (Ok x) =
              subst (λ (h : Held). Stages {A = PlannedEntry} (table_of h) (free_of t.image) (free_of u.image) (row_blocks (prev_on h files root) p row) (Ok x)) far.went.same (stages root files bytes (suits_now root bytes suits)) in
              onward_next (table_of s) (free_of s.image) (free_of t.image) (free_of u.image) (flat_map (row_blocks (prev_on s files root) p) rows) (row_blocks (prev_on s files root) p row) (flat_map (row_blocks (prev_on s files root) p) left) x
              (far.stages root files bytes suits) here

    -- an entry that can't be planned
    pub stages_stop : {A : Type 0} (u : Held) (r : Result A LineFault) (e : LineFault) → r ≡ Err e
        → ((root : Option ℕ) (files bytes : ℕ → List ℕ) → Suits told t m p base root bytes → Stages {A = PlannedEntry} (table_of t) (free_of t.image) (free_of u.image) (row_blocks (prev_on t files root) p row) (Err e))
        → (root : Option ℕ) (files bytes : ℕ → List ℕ) → Suits told s l p base root bytes → Stages (table_of s) (free_of s.image) (free_of u.image) (flat_map (row_blocks (prev_on s files root) p) rows) r
    stages_stop u r e is stages root files bytes suits =
        let here : Stages {A = PlannedEntry} (table_of s) (free_of t.image) (free_of u.image) (row_blocks (prev_on s files root) p row) (Err e) =
        subst (λ (h : Held). Stages {A = PlannedEntry} (table_of h) (free_of t.image) (free_of u.image) (row_blocks (prev_on h files root) p row) (Err e)) far.went.same (stages root files bytes (suits_now root bytes suits)) in
        onward_err PlannedEntry (table_of s) (free_of s.image) (free_of t.image) (free_of u.image) (flat_map (row_blocks (prev_on s files root) p) rows) (row_blocks (prev_on s files root) p row) (flat_map (row_blocks (prev_on s files root) p) left) r e is
        (far.stages root files bytes suits) here

-- ---- the blocks by rows, and by items

flat_same : {X : Type 0} (f g : X → List ℕ) (xs : List X) → All (λ x. f x ≡ g x) xs → flat_map f xs ≡ flat_map g xs
flat_same f g [] each = refl
flat_same f g (x ∷ xs) each =
    let first = All-head (λ x. f x ≡ g x) x xs each in
    let rest = flat_same f g xs (All-tail (λ x. f x ≡ g x) x xs each) in
    λ i. first i ++ rest i

was_same : (o : Option Item) (a : Attrs) (stamp : ℕ) (x : List ℕ) → is_as_was o (item.File a stamp x) ≡ is_file_as_was o stamp
was_same None a stamp x = refl
was_same (Some (item.Folder b)) a stamp x = refl
was_same (Some (item.File b n y)) a stamp x = refl
was_same (Some (item.Link b n y)) a stamp x = refl

item_blocks : (o : Option Item) (e : Item) → (if is_file e && not (is_as_was o e) then blob_len (length (bytes_of e)) ∷ [] else []) ≡ kind_blocks o (listed e)
item_blocks o (item.Folder a) = refl
item_blocks o (item.File a stamp x) = by_was (is_as_was o (item.File a stamp x)) (was_same o a stamp x)
  where
    by_was : (w : Bool) → w ≡ is_file_as_was o stamp → (if not w then blob_len (length x) ∷ [] else []) ≡ (if is_file_as_was o stamp then [] else blob_len (length x) ∷ [])
    by_was true e = ap (λ (k : Bool). if k then [] else blob_len (length x) ∷ []) e
    by_was false e = ap (λ (k : Bool). if k then [] else blob_len (length x) ∷ []) e
item_blocks o (item.Link a stamp x) = refl

pub staging_rows : (prev : LabelledTree) (t : Tree) (p : Names) → IsTree t → staging_in prev t p ≡ flat_map (row_blocks prev p) (list_rows t p)
staging_rows prev t p tree =
    flat_same (new_blocks prev) (λ row. row_blocks prev p (row_of row)) (children t p) (λ i d below.
    let row : Names × Item = get_or (children t p) i d in
    let entry = are_entries t p tree i d below in
    item_blocks (item_at (bare prev) row.0) row.1 ∙ ap (λ (q : Names). kind_blocks (item_at (bare prev) q) (listed row.1)) entry.under)
    ∙ sym (flat_map-map (row_blocks prev p) row_of (children t p))
