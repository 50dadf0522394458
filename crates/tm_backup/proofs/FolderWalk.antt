-- A folder with all beneath it.
use Rattle.std.proofs.Common.{◌≡◌, ℕ, ◌+◌, ◌≤◌, Bool, true, false, cond, if◌then◌else◌, Option, Some, None, List, [], ◌∷◌, ◌++◌, map, Result, Err, refl, sym, ap, ◌∙◌, subst, arith}
use Rattle.std.specs.List.{flat_map, filter_map, sum}
use Rattle.std.proofs.lemmas.Grind.{flat_map-append}
use Rattle.tm_base.specs.Paths.{Names}
use Rattle.tm_base.specs.declared.refused.LineFault.{LineFault}
use Rattle.tm_blockmap.specs.Counts.{times}
use Rattle.tm_world.specs.declared.world.Side.TheVariants.{Store}
use Rattle.tm_world.specs.Log.{Log, now}
use Rattle.tm_world.proofs.Going.{Runs-none}
use Rattle.tm_graph.specs.Nodes.{Nodes, greatest, new_node}
use Rattle.tm_tree.specs.declared.attrs.Attrs.{Attrs}
use Rattle.tm_tree.specs.declared.item.Item.TheVariants as item
use Rattle.tm_tree.specs.declared.listing.ListRow.{ListRow}
use Rattle.tm_tree.specs.declared.node.Child.{Child}
use Rattle.tm_tree.specs.declared.node.NodeBody.TheVariants.{Folder}
use Rattle.tm_tree.specs.Listings.{listed, listing, list_rows}
use Rattle.tm_tree.specs.Trees.{Tree, IsTree, item_at, is_some_folder, folder_at, last_of, is_child, children}
use Rattle.tm_tree.specs.Copies.{LabelledTree, bare}
use Rattle.tm_image.specs.Room.{free_of}
use Rattle.tm_store_records.specs.Held.{Held}
use Rattle.tm_volume.specs.Seen.{Seen}
use Rattle.tm_copy.specs.Keeping.{kept_folder}
use Rattle.tm_copy.specs.Making.{Making, with_node, Adds}
use Rattle.tm_copy.specs.Building.{Backup, base_at, first, next, IsSound, AreNew, Builds, AreBuilt, AreNamed}
use Rattle.tm_copy.proofs.Naming.{lists_folder}
use Rattle.tm_copy.proofs.Finishes.{folder_is_kept, folder_is_made}
use Rattle.tm_backup.specs.declared.stage.PlannedEntry.{PlannedEntry}
use Rattle.tm_backup.specs.Answers.{Stages}
use Rattle.tm_backup.specs.Growing.{Suits, Grows, folders_from, staging_from}
use Rattle.tm_backup.specs.EntryPlans.{Head, is_folder_plan, plan_head, row_head, folder_names, owed, ArePlanned}
use Rattle.tm_backup.specs.Steps.{MayGo, Ran, Went, store_bytes}
use Rattle.tm_backup.specs.Taking.{taken, as_taken, view_on, prev_on, backup_of}
use Rattle.tm_backup.specs.Walk.{staging_in, first_full}
use Rattle.tm_backup.specs.Walking.{entry_folders, entry_staging, IsBegun, FolderGrows, EntriesGrow}
use Rattle.tm_backup.proofs.Entering.{backup_now}
use Rattle.tm_backup.proofs.Folders.{folders_in_order}
use Rattle.tm_backup.proofs.Folding.{suits_then, table_of}
use Rattle.tm_backup.proofs.Growth.{number_next, next_after, nodes_after, grown_node, grown_then, grown_paid}
use Rattle.tm_backup.proofs.Keeping.{sound_of}
use Rattle.tm_backup.proofs.Looks.{Listed, view_listed}
use Rattle.tm_backup.proofs.Staging.{onward_start, onward_err, stages_both}
use Rattle.tm_backup.proofs.Taking.{taken_at_folder}

-- ---- a volume that was listed

pub ran_listed : (told : Type 0) (v w : Seen) (s : Held) (l : Log) → Listed v w → Ran told v w s s l l
ran_listed told v w s l is = record { runs = λ _. Runs-none Store _ l; volume = is; size = refl }

-- ---- what is walked, in two parts

flat_flat : {X Y Z : Type 0} (g : Y → List Z) (h : X → List Y) (xs : List X) → flat_map g (flat_map h xs) ≡ flat_map (λ x. flat_map g (h x)) xs
flat_flat g h [] = refl
flat_flat g h (x ∷ xs) = flat_map-append g (h x) (flat_map h xs) ∙ ap (λ zs. flat_map g (h x) ++ zs) (flat_flat g h xs)

flat_names : {Y : Type 0} (f : List ℕ → List Y) (planned : List PlannedEntry) → flat_map f (folder_names (map plan_head planned)) ≡ flat_map (λ (x : PlannedEntry). if is_folder_plan x.plan then f x.name else []) planned
flat_names f [] = refl
flat_names f (x ∷ planned) = by_folder (is_folder_plan x.plan) refl (flat_names f planned)
  where
    by_folder : (b : Bool) → is_folder_plan x.plan ≡ b → flat_map f (folder_names (map plan_head planned)) ≡ flat_map (λ (x : PlannedEntry). if is_folder_plan x.plan then f x.name else []) planned
        → flat_map f (folder_names (map plan_head (x ∷ planned))) ≡ (if is_folder_plan x.plan then f x.name else []) ++ flat_map (λ (x : PlannedEntry). if is_folder_plan x.plan then f x.name else []) planned
    by_folder true is rest =
        ap (λ (b : Bool). flat_map f (filter_map (λ (h : Head). if h.1 then Some h.0 else None) ((x.name, b) ∷ map plan_head planned))) is
        ∙ ap (λ ys. f x.name ++ ys) rest
        ∙ ap (λ (b : Bool). (if b then f x.name else []) ++ flat_map (λ (x : PlannedEntry). if is_folder_plan x.plan then f x.name else []) planned) (sym is)
    by_folder false is rest =
        ap (λ (b : Bool). flat_map f (filter_map (λ (h : Head). if h.1 then Some h.0 else None) ((x.name, b) ∷ map plan_head planned))) is
        ∙ rest
        ∙ ap (λ (b : Bool). (if b then f x.name else []) ++ flat_map (λ (x : PlannedEntry). if is_folder_plan x.plan then f x.name else []) planned) (sym is)

module _ (t : Tree) (p : Names) (tree : IsTree t) (attrs : Attrs) (rows : List ListRow) (planned : List PlannedEntry) (listed : listing t p ≡ Some (record { attrs = attrs; rows = rows })) (heads : map plan_head planned ≡ map row_head rows) where
  pub here : item_at t p ≡ Some (item.Folder attrs)
  here = (lists_folder t p (record { attrs = attrs; rows = rows }) listed).0

  pub rows_are : rows ≡ list_rows t p
  rows_are = (lists_folder t p (record { attrs = attrs; rows = rows }) listed).1

  names : folder_names (map row_head (list_rows t p)) ≡ folder_names (map plan_head planned)
  names = ap (λ hs. folder_names hs) (ap (map row_head) (sym rows_are) ∙ sym heads)

  order : folders_from t p ≡ p ∷ flat_map (λ name. folders_from t (p ++ name ∷ [])) (folder_names (map plan_head planned))
  order = folders_in_order t p tree (ap is_some_folder here) ∙ ap (λ ns. p ∷ flat_map (λ name. folders_from t (p ++ name ∷ [])) ns) names

  pub folders_split : folders_from t p ≡ p ∷ flat_map (entry_folders t p) planned
  folders_split = order ∙ ap (λ (ps : List Names). p ∷ ps) (flat_names (λ name. folders_from t (p ++ name ∷ [])) planned)

  pub staging_split : (prev : LabelledTree) → staging_from prev t p ≡ staging_in prev t p ++ flat_map (entry_staging prev t p) planned
  staging_split prev =
      ap (flat_map (staging_in prev t)) order
      ∙ ap (λ (bs : List ℕ). staging_in prev t p ++ bs) (flat_flat (staging_in prev t) (λ name. folders_from t (p ++ name ∷ [])) (folder_names (map plan_head planned)) ∙ flat_names (λ name. staging_from prev t (p ++ name ∷ [])) planned)

-- ---- names stay, whatever the items are taken for

taken_children : (prev : LabelledTree) (t : Tree) (p : Names) → map (λ (r : ListRow). r.name) (list_rows (as_taken prev t) p) ≡ map (λ (r : ListRow). r.name) (list_rows t p)
taken_children prev [] p = refl
taken_children prev (row ∷ t) p = by_child (is_child p row.0) (taken_children prev t p)
  where
    by_child : (b : Bool) → map (λ (r : ListRow). r.name) (list_rows (as_taken prev t) p) ≡ map (λ (r : ListRow). r.name) (list_rows t p)
        → map (λ (r : ListRow). r.name) (map (λ row. record { name = last_of row.0; kind = listed row.1 }) (cond b ((row.0, taken (item_at (bare prev) row.0) row.1) ∷ children (as_taken prev t) p) (children (as_taken prev t) p)))
        ≡ map (λ (r : ListRow). r.name) (map (λ row. record { name = last_of row.0; kind = listed row.1 }) (cond b (row ∷ children t p) (children t p)))
    by_child true rest = ap (λ (ns : List (List ℕ)). last_of row.0 ∷ ns) rest
    by_child false rest = rest

plan_names : (planned : List PlannedEntry) (rows : List ListRow) → map plan_head planned ≡ map row_head rows → map (λ (x : PlannedEntry). x.name) planned ≡ map (λ (r : ListRow). r.name) rows
plan_names planned rows heads = sym (firsts planned) ∙ ap (map (λ (h : Head). h.0)) heads ∙ row_firsts rows
  where
    firsts : (planned : List PlannedEntry) → map (λ (h : Head). h.0) (map plan_head planned) ≡ map (λ (x : PlannedEntry). x.name) planned
    firsts [] = refl
    firsts (x ∷ planned) = ap (λ (ns : List (List ℕ)). x.name ∷ ns) (firsts planned)

    row_firsts : (rows : List ListRow) → map (λ (h : Head). h.0) (map row_head rows) ≡ map (λ (r : ListRow). r.name) rows
    row_firsts [] = refl
    row_firsts (r ∷ rows) = ap (λ (ns : List (List ℕ)). r.name ∷ ns) (row_firsts rows)

-- ---- its blocks are staged

-- those of its own files are the first
pub staging_front : (t : Tree) (p : Names) (prev : LabelledTree) → IsTree t → folder_at t p ≡ true → (rest : List ℕ) × (staging_from prev t p ≡ staging_in prev t p ++ rest)
staging_front t p prev tree folder = let names = folder_names (map row_head (list_rows t p)) in
    (flat_map (staging_in prev t) (flat_map (λ name. folders_from t (p ++ name ∷ [])) names), ap (flat_map (staging_in prev t)) (folders_in_order t p tree folder))

pub stages_front : {A : Type 0} (B : Type 0) (t : Tree) (p : Names) (prev : LabelledTree) (k free left : ℕ) (r : Result A LineFault) (e : LineFault) → IsTree t → folder_at t p ≡ true → r ≡ Err e
    → Stages {A = B} k free left (staging_in prev t p) (Err e) → Stages k free left (staging_from prev t p) r
stages_front {A} B t p prev k free left r e tree folder is h =
    let split = staging_front t p prev tree folder in
    subst (λ (bs : List ℕ). Stages k free left bs r) (sym split.1) (onward_err B k free free left (staging_in prev t p ++ split.0) (staging_in prev t p) split.0 r e is (onward_start k free (staging_in prev t p ++ split.0)) h)

module _ (told : Type 0) (w : Seen) (s t : Held) (l m : Log) (a0 b0 : ℕ) (may : MayGo told w s (now l) a0 b0) (p : Names) (base : Option ℕ) (rows : List ListRow) (attrs : Attrs) (planned : List PlannedEntry)
    (trees : (bytes : ℕ → List ℕ) → IsTree (view_on w bytes)) (lists : (bytes : ℕ → List ℕ) → listing (view_on w bytes) p ≡ Some (record { attrs = attrs; rows = rows })) (heads : map plan_head planned ≡ map row_head rows)
    (ran : Ran told w w s t l m) (went : Went told s t l m) where
  suits_t : (root : Option ℕ) (bytes : ℕ → List ℕ) → Suits told s l p base root bytes → Suits told t m p base root bytes
  suits_t root bytes suits = suits_then told s t l m went w w a0 b0 may ran p base root bytes suits

  -- with all its entries
  pub stages_whole : {A : Type 0} (u : Held) (r : Result A LineFault)
      → ((root : Option ℕ) (files bytes : ℕ → List ℕ) → Suits told s l p base root bytes
      → (first_full (table_of s) (free_of s.image) (staging_in (prev_on s files root) (view_on w bytes) p) ≡ None) × (free_of t.image + sum (staging_in (prev_on s files root) (view_on w bytes) p) ≡ free_of s.image))
      → ((root : Option ℕ) (files bytes : ℕ → List ℕ) → Suits told t m p base root bytes → Stages (table_of t) (free_of t.image) (free_of u.image) (flat_map (entry_staging (prev_on t files root) (view_on w bytes) p) planned) r)
      → (root : Option ℕ) (files bytes : ℕ → List ℕ) → Suits told s l p base root bytes → Stages (table_of s) (free_of s.image) (free_of u.image) (staging_from (prev_on s files root) (view_on w bytes) p) r
  stages_whole u r first second root files bytes suits =
      let prev = prev_on s files root in
      let tree = view_on w bytes in
      let split = staging_split tree p (trees bytes) attrs rows planned (lists bytes) heads prev in
      let here : Stages (table_of s) (free_of t.image) (free_of u.image) (flat_map (entry_staging prev tree p) planned) r =
      subst (λ (h : Held). Stages (table_of h) (free_of t.image) (free_of u.image) (flat_map (entry_staging (prev_on h files root) tree p) planned) r) went.same (second root files bytes (suits_t root bytes suits)) in
      subst (λ (bs : List ℕ). Stages (table_of s) (free_of s.image) (free_of u.image) bs r) (sym split)
      (stages_both (table_of s) (free_of s.image) (free_of t.image) (free_of u.image) (staging_in prev tree p) (flat_map (entry_staging prev tree p) planned) r (first root files bytes suits) here)

  -- ---- its node is made

  module _ (u : Held) (n : Log) (old mid new : Making) (entries : List Child) (node : ℕ) (grows : EntriesGrow told t u w m n p base planned old mid entries)
      (names_are : map (λ (c : Child). c.name) entries ≡ map (λ (x : PlannedEntry). x.name) planned) (due : (k : ℕ) → times k t.staged ≡ times k s.staged + owed planned k)
      (plans : (root : Option ℕ) (files bytes : ℕ → List ℕ) → Suits told s l p base root bytes → ArePlanned told (backup_of s files root (view_on w bytes)) (store_bytes m) p planned)
      (nodes : u.nodes ≡ s.nodes) (begun : IsBegun s mid) (adds : Adds (kept_folder u.nodes base attrs entries) mid (Folder attrs entries) new node) where
    abbrev Made : Backup → (ℕ → List ℕ) → Making → ℕ → Type 0
    Made b fresh x k = Grows told b (store_bytes n) old x (λ k. 0) s.staged u.staged fresh (λ other. Builds b x.nodes other (next b old.nodes) (next b x.nodes) p k)

    module _ (root : Option ℕ) (files bytes fresh : ℕ → List ℕ) (suits : Suits told s l p base root bytes) (are : AreNew (backup_of s files root (view_on w bytes)) old.nodes) where
      abbrev b : Backup
      b = backup_of s files root (view_on w bytes)

      sound : IsSound b
      sound = sound_of s files root (view_on w bytes) may.graph suits.based (trees bytes)

      entries_now : Grows told b (store_bytes n) old mid (owed planned) t.staged u.staged fresh (λ other. AreBuilt b mid.nodes other p (next b old.nodes) entries (next b mid.nodes))
      entries_now =
          let is = backup_now told w w s t l m ran went files root bytes in
          subst (λ (c : Backup). Grows told c (store_bytes n) old mid (owed planned) t.staged u.staged fresh (λ other. AreBuilt c mid.nodes other p (next c old.nodes) entries (next c mid.nodes))) is
          (grows root files bytes fresh (suits_t root bytes suits) (subst (λ (c : Backup). AreNew c old.nodes) (sym is) are) (subst (λ (c : Backup). ArePlanned told c (store_bytes m) p planned) (sym is) (plans root files bytes suits)))

      stood : item_at b.now p ≡ Some (item.Folder attrs)
      stood = taken_at_folder (prev_on s files root) (view_on w bytes) p attrs (here (view_on w bytes) p (trees bytes) attrs rows planned (lists bytes) heads)

      named : AreNamed b p entries
      named = names_are ∙ plan_names planned rows heads ∙ ap (map (λ (r : ListRow). r.name)) (rows_are (view_on w bytes) p (trees bytes) attrs rows planned (lists bytes) heads)
          ∙ sym (taken_children (prev_on s files root) (view_on w bytes) p)

      kept_is : (o : Option ℕ) → kept_folder u.nodes base attrs entries ≡ o → kept_folder b.graph (base_at b p) attrs entries ≡ o
      kept_is o h = (λ i. kept_folder (sym nodes i) (sym suits.here i) attrs entries) ∙ h

      low : first b ≤ next b old.nodes
      low = omega arith

      first_is : mid.first ≡ greatest b.graph + 1
      first_is = begun.first

      by_kept : (o : Option ℕ) → kept_folder u.nodes base attrs entries ≡ o → Adds o mid (Folder attrs entries) new node → Made b fresh new node
      by_kept (Some k) h a = let g = entries_now in
          subst (λ (x : Making). Made b fresh x node) (sym a.1) (record {
            other = g.other;
            grown = grown_paid told b (store_bytes n) old mid (owed planned) (λ k. 0) t.staged s.staged u.staged fresh g.other (λ k. omega (arith, due k)) g.grown;
            has = subst (λ (j : ℕ). Builds b mid.nodes g.other (next b old.nodes) (next b mid.nodes) p j) (sym a.0)
                (folder_is_kept b mid.nodes g.other (next b old.nodes) (next b mid.nodes) p attrs entries k sound g.grown.are low stood named g.has (kept_is (Some k) h));
          })
      by_kept None h a =
          let g = entries_now in
          let body = Folder attrs entries in
          let row = new_node mid.label body in
          let made = folder_is_made b mid.nodes g.other (next b old.nodes) p attrs entries row sound g.grown.are low stood named g.has (kept_is None h) begun.label refl in
          let after = nodes_after b mid first_is body in
          let more = grown_node told b (store_bytes n) mid u.staged g.other first_is body made.0 in
          let whole = grown_then told b (store_bytes n) (store_bytes n) old mid (with_node mid body) (owed planned) (λ k. 0) t.staged u.staged u.staged fresh g.other g.other g.grown more (λ k. omega (arith, due k)) (λ _ k some. refl) in
          subst (λ (x : Making). Made b fresh x node) (sym a.1) (record {
            other = g.other;
            grown = grown_paid told b (store_bytes n) old (with_node mid body) (λ k. owed planned k + 0) (λ k. 0) t.staged s.staged u.staged fresh g.other (λ k. omega (arith, due k)) whole;
            has = subst (λ (j : ℕ). Builds b (with_node mid body).nodes g.other (next b old.nodes) (next b (with_node mid body).nodes) p j) (sym (a.0 ∙ number_next b mid first_is))
                (subst (λ (xs : Nodes). Builds b xs g.other (next b old.nodes) (next b xs) p (next b mid.nodes)) (sym after)
                (subst (λ (hi : ℕ). Builds b (mid.nodes ++ (next b mid.nodes, row) ∷ []) g.other (next b old.nodes) hi p (next b mid.nodes)) (sym (next_after b mid first_is row)) made.1));
          })

      pub folder_now : Made b fresh new node
      folder_now = by_kept (kept_folder u.nodes base attrs entries) refl adds

-- of a volume that was listed, of which the view is the same
pub folder_grows : (told : Type 0) (v w : Seen) (s u : Held) (l n : Log) (p : Names) (base : Option ℕ) (old new : Making) (node : ℕ) → Listed v w → FolderGrows told s u w l n p base old new node → FolderGrows told s u v l n p base old new node
folder_grows told v w s u l n p base old new node is grows root files bytes fresh suits are =
    let view : view_on w bytes ≡ view_on v bytes = view_listed v w w.looks is bytes in
    subst (λ (t : Tree). Grows told (backup_of s files root t) (store_bytes n) old new (λ k. 0) s.staged u.staged fresh (λ other. Builds (backup_of s files root t) new.nodes other (next (backup_of s files root t) old.nodes) (next (backup_of s files root t) new.nodes) p node)) view
    (grows root files bytes fresh suits (subst (λ (t : Tree). AreNew (backup_of s files root t) old.nodes) (sym view) are))
