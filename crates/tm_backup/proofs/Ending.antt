-- What was made may be added to the store.
use Rattle.std.proofs.Common.{if◌then◌else◌, ◌≡◌, ℕ, ◌+◌, ◌<◌, ◌≤◌, ◌^◌, Bool, true, false, cond, not, nat_eq, Option, Some, None, is_some, List, [], ◌∷◌, ◌++◌, length, get_or, filter, map, refl, sym, ap, ◌∙◌, subst, arith}
use Rattle.std.specs.List.{All, slice_get, cons_option}
use Rattle.std.specs.Option.{option_map, unwrap_or}
use Rattle.std.proofs.lemmas.Bool.Decides.{nat_tests}
use Rattle.std.proofs.lemmas.List.{get_or_default, length-map}
use Rattle.std.proofs.lemmas.List.Elements.{All-nil, All-cons, All-head, All-tail, All-map, All-weaker}
use Rattle.std.proofs.lemmas.List.Sums.{length-filter, count_by-le-length, sum_by-cons}
use Rattle.std.proofs.lemmas.Option.{slice_get_read}
use Rattle.tm_base.specs.IsName.{IsName}
use Rattle.tm_base.specs.Paths.{Names}
use Rattle.tm_base.specs.Limits.{max_items, max_file_bytes}
use Rattle.tm_world.specs.declared.bytes.Blob.{Blob}
use Rattle.tm_tree.specs.declared.attrs.Attrs.{Attrs}
use Rattle.tm_tree.specs.declared.item.Item.{Item}
use Rattle.tm_tree.specs.declared.item.Item.TheVariants as item
use Rattle.tm_tree.specs.declared.listing.ListKind.{ListKind}
use Rattle.tm_tree.specs.declared.listing.ListKind.TheVariants as kind
use Rattle.tm_tree.specs.declared.listing.ListRow.{ListRow}
use Rattle.tm_tree.specs.declared.node.Child.{Child}
use Rattle.tm_tree.specs.declared.node.LeafRow.TheVariants.{File, Link}
use Rattle.tm_tree.specs.declared.node.NodeBody.{NodeBody}
use Rattle.tm_tree.specs.declared.node.NodeBody.TheVariants.{Folder, Leaf}
use Rattle.tm_tree.specs.declared.node.NodeRow.{NodeRow}
use Rattle.tm_tree.specs.Items.{is_folder, attrs_of}
use Rattle.tm_tree.specs.Listings.{list_rows}
use Rattle.tm_tree.specs.Trees.{item_at, is_child, is_some_folder}
use Rattle.tm_tree.specs.Views.{is_hidden, hidden_paths}
use Rattle.tm_tree.specs.Copies.{bare, is_same_at}
use Rattle.tm_tree.proofs.ViewsKept.{item_at-view}
use Rattle.tm_graph.specs.declared.built.Built.{Built}
use Rattle.tm_graph.specs.Nodes.{Nodes, entries_of, times, body_entries}
use Rattle.tm_identity.specs.Stored.{node_length, body_length}
use Rattle.tm_nodes.specs.Attrs.{IsAttrs}
use Rattle.tm_nodes.specs.Nodes.{node_attrs, IsNodeTail, AreEntries}
use Rattle.tm_image.specs.Seen.{Seen as Image}
use Rattle.tm_store_records.specs.Held.{Held}
use Rattle.tm_store_records.specs.Built.{IsBuilt, IsNew}
use Rattle.tm_store_records.specs.Built.{built_lengths, built_length}
use Rattle.tm_volume.specs.Seen.{Seen, IsKept, tree_on}
use Rattle.tm_volume.specs.Bounds.{HasFields, HasBounds, ItemsKeepBounds, KeptAreFew}
use Rattle.tm_copy.specs.Making.{Making, IsMaking, next_number, lengths_of, file_length}
use Rattle.tm_copy.specs.Listed.{StandsAs}
use Rattle.tm_copy.specs.Reading.{item_of}
use Rattle.tm_copy.specs.Stamps.{alike}
use Rattle.tm_copy.specs.Building.{Backup, prev, next, IsNewNode}
use Rattle.tm_copy.specs.Driving.{IsPlaced}
use Rattle.tm_copy.proofs.Naming.{rows_stand_in}
use Rattle.tm_copy.proofs.Finishes.{leaf_is_same}
use Rattle.tm_backup.specs.Growing.{IsFilled}
use Rattle.tm_backup.specs.Taking.{taken, base_root, view_on, backup_of}
use Rattle.tm_backup.proofs.Basing.{root_over}
use Rattle.tm_backup.proofs.Few.{taken_few}
use Rattle.tm_backup.proofs.Making.{IsMadeOf}
use Rattle.tm_backup.proofs.Taking.{item_at-taken}

-- ---- lengths

same_length : (body : NodeBody) → file_length body ≡ built_length body
same_length (Folder a es) = refl
same_length (Leaf (File a s n)) = refl
same_length (Leaf (Link a s t)) = refl

pub same_lengths : (nodes : Nodes) → lengths_of nodes ≡ built_lengths nodes
same_lengths [] = refl
same_lengths (e ∷ nodes) = λ i. cons_option (option_map (λ size. (e.0, size)) (same_length e.1.body i)) (same_lengths nodes i)

length_is : (body : NodeBody) → body_length body ≡ unwrap_or (file_length body) 0
length_is (Folder a es) = refl
length_is (Leaf (File a s n)) = refl
length_is (Leaf (Link a s t)) = refl

abbrev IsSmall : ℕ × NodeRow → Type 0
IsSmall e = node_length e.1 ≤ max_file_bytes

abbrev IsShort : ℕ × ℕ → Type 0
IsShort x = x.1 ≤ max_file_bytes

module _ (e : ℕ × NodeRow) (nodes : Nodes) where
  small_node : (o : Option ℕ) → file_length e.1.body ≡ o → All IsShort (cons_option (option_map (λ size. (e.0, size)) o) (lengths_of nodes)) → IsSmall e × All IsShort (lengths_of nodes)
  small_node None is h = (omega (arith, length_is e.1.body ∙ ap (λ o. unwrap_or o 0) is), h)
  small_node (Some size) is h = (
    let short : size ≤ max_file_bytes = All-head IsShort (e.0, size) (lengths_of nodes) h in omega (arith, short, length_is e.1.body ∙ ap (λ o. unwrap_or o 0) is),
    All-tail IsShort (e.0, size) (lengths_of nodes) h,
  )

small_nodes : (nodes : Nodes) → All IsShort (lengths_of nodes) → All IsSmall nodes
small_nodes [] h = All-nil IsSmall
small_nodes (e ∷ nodes) h = let here = small_node e nodes (file_length e.1.body) refl h in All-cons IsSmall e nodes here.0 (small_nodes nodes here.1)

-- ---- entries

low_entries : (entries : List Child) (top : ℕ) → ((q : ℕ) → 0 < times q entries → q < top) → All (λ (c : Child). c.node < top) entries
low_entries [] top f = All-nil (λ (c : Child). c.node < top)
low_entries (child ∷ entries) top f = All-cons (λ (c : Child). c.node < top) child entries
    (f child.node (here (sum_by-cons (λ (c : Child). cond (nat_eq c.node child.node) 1 0) child entries)))
    (low_entries entries top (λ q l. f q (omega (arith, l, sum_by-cons (λ (c : Child). cond (nat_eq c.node q) 1 0) child entries))))
  where
    here : times child.node (child ∷ entries) ≡ cond (nat_eq child.node child.node) 1 0 + times child.node entries → 0 < times child.node (child ∷ entries)
    here e = grind (arith, nat_tests, e)

named_entries : (entries : List Child) → All IsName (map (λ (c : Child). c.name) entries) → All (λ (c : Child). IsName c.name) entries
named_entries [] h = All-nil (λ (c : Child). IsName c.name)
named_entries (c ∷ entries) h = All-cons (λ (c : Child). IsName c.name) c entries
    (All-head IsName c.name (map (λ (c : Child). c.name) entries) h) (named_entries entries (All-tail IsName c.name (map (λ (c : Child). c.name) entries) h))

last_all : {X : Type 0} (P : X → Type 0) (p : List X) (x : X) → All P (p ++ x ∷ []) → P x
last_all P [] x h = All-head P x [] h
last_all P (y ∷ p) x h = last_all P p x (All-tail P y (p ++ x ∷ []) h)

-- ---- one node

item_attrs : (bytes : List ℕ) (body : NodeBody) → attrs_of (item_of bytes body) ≡ node_attrs body
item_attrs bytes (Folder a es) = refl
item_attrs bytes (Leaf (File a s n)) = refl
item_attrs bytes (Leaf (Link a s t)) = refl

tail_of : (bytes : List ℕ) (body : NodeBody) → HasFields (item_of bytes body) → AreEntries (body_entries body) → IsNodeTail body
tail_of bytes (Folder a es) h entries = entries
tail_of bytes (Leaf (File a s n)) h entries = h
tail_of bytes (Leaf (Link a s t)) h entries = h

alike_leaf : (d e : Item) → alike d e ≡ true → is_folder d ≡ false
alike_leaf (item.Folder a) e h = absurd (cc h)
alike_leaf (item.File a s x) e h = refl
alike_leaf (item.Link a s x) e h = refl

-- what the view has, the volume has
pub in_volume : (v : Seen) (bytes : ℕ → List ℕ) (p : Names) (e : Item) → item_at (view_on v bytes) p ≡ Some e → item_at (tree_on v bytes) p ≡ Some e
in_volume v bytes p e is = by_hidden (is_hidden (hidden_paths v.fixed (tree_on v bytes)) p) (sym (item_at-view v.fixed (tree_on v bytes) p) ∙ is)
  where
    by_hidden : (h : Bool) → cond (not h) (item_at (tree_on v bytes) p) None ≡ Some e → item_at (tree_on v bytes) p ≡ Some e
    by_hidden true f = absurd (cc f)
    by_hidden false f = f

module _ (told : Type 0) (s : Held) (v : Seen) (bytes : ℕ → List ℕ) (files stored : ℕ → List ℕ) (id n : ℕ) (m : Making) (staged : List ℕ) (kept : IsKept v) (bounds : ItemsKeepBounds) (few : KeptAreFew)
    (made : IsMadeOf told (backup_of s files (base_root s id) (view_on v bytes)) stored m n staged) (making : IsMaking m) (fits : next_number m < 2 ^ 64) (image : Image) (now : List ℕ) where
  abbrev b : Backup
  b = backup_of s files (base_root s id) (view_on v bytes)

  abbrev built : Built
  built = record { root = n; nodes = m.nodes; blobs = m.blobs }

  -- the store afterwards
  abbrev after : Held
  after = record s { image = image; staged = now }

  -- what changed stands in the view
  item_own : (place : Names) (e : Item) → item_at b.now place ≡ Some e → is_same_at (prev b) b.now place ≡ false → item_at (view_on v bytes) place ≡ Some e
  item_own place e is other = by_item (item_at (view_on v bytes) place) refl (sym (item_at-taken (prev b) (view_on v bytes) place) ∙ is)
    where
      by_alike : (d x : Item) → item_at (bare (prev b)) place ≡ Some d → (k : Bool) → alike d x ≡ k → Some (if k then d else x) ≡ Some e → Some x ≡ Some e
      by_alike d x was true h f =
          let same : d ≡ e = cc f in
          let leaf : is_folder e ≡ false = ap is_folder (sym same) ∙ alike_leaf d x h in
          absurd (cc (other, leaf_is_same b place e made.sound is leaf (was ∙ ap Some same)))
      by_alike d x was false h f = f

      by_was : (x : Item) (o : Option Item) → item_at (bare (prev b)) place ≡ o → Some (taken o x) ≡ Some e → Some x ≡ Some e
      by_was x None was f = f
      by_was x (Some d) was f = by_alike d x was (alike d x) refl f

      by_item : (o : Option Item) → item_at (view_on v bytes) place ≡ o → option_map (taken (item_at (bare (prev b)) place)) o ≡ Some e → item_at (view_on v bytes) place ≡ Some e
      by_item None at f = absurd (cc f)
      by_item (Some x) at f = at ∙ by_was x (item_at (bare (prev b)) place) refl f

  -- where something stands, the path keeps its bounds
  path_bounds : (place : Names) → is_some (item_at b.now place) ≡ true → (e : Item) × HasBounds place e
  path_bounds place there = by_item (item_at (view_on v bytes) place) refl (sym (ap is_some (item_at-taken (prev b) (view_on v bytes) place)) ∙ there)
    where
      by_item : (o : Option Item) → item_at (view_on v bytes) place ≡ o → is_some (option_map (taken (item_at (bare (prev b)) place)) o) ≡ true → (e : Item) × HasBounds place e
      by_item None at f = absurd (cc f)
      by_item (Some x) at f = (x, bounds v bytes place x kept (in_volume v bytes place x at))

  stands_some : (place : Names) (row : ListRow) → StandsAs b.now place row.kind → is_some (item_at b.now place) ≡ true
  stands_some place row h = by_kind row.kind h
    where
      by_folder : (o : Option Item) → is_some_folder o ≡ true → is_some o ≡ true
      by_folder None f = absurd (cc f)
      by_folder (Some e) f = refl

      by_kind : (k : ListKind) → StandsAs b.now place k → is_some (item_at b.now place) ≡ true
      by_kind kind.Folder g = by_folder (item_at b.now place) g
      by_kind (kind.File a t size) g = ap is_some g.1
      by_kind (kind.Link a t target) g = ap is_some g

  rows_named : (place : Names) → All (λ (row : ListRow). IsName row.name) (list_rows b.now place)
  rows_named place = All-weaker (λ (row : ListRow). StandsAs b.now (place ++ row.name ∷ []) row.kind) (λ (row : ListRow). IsName row.name)
      (λ row stands. last_all IsName place row.name (path_bounds (place ++ row.name ∷ []) (stands_some (place ++ row.name ∷ []) row stands)).1.names)
      (list_rows b.now place) (rows_stand_in b.now place made.sound.tree)

  now_few : length b.now ≤ max_items
  now_few = taken_few (prev b) v bytes (few v bytes kept)

  rows_few : (place : Names) → length (list_rows b.now place) ≤ max_items
  rows_few place =
      let child = λ (row : Names × Item). is_child place row.0 in
      omega (arith, now_few, rows_len, length-filter child b.now, count_by-le-length child b.now)
    where
      rows_len : length (list_rows b.now place) ≡ length (filter (λ (row : Names × Item). is_child place row.0) b.now)
      rows_len = length-map (filter (λ (row : Names × Item). is_child place row.0) b.now) _

  each_new : (e : ℕ × NodeRow) → IsPlaced b m.nodes made.other n e → IsNewNode b e → IsSmall e → e.0 < 2 ^ 64 → IsNew after built e
  each_new e placed new small low =
      let here = item_own placed.place (item_of (made.other e.0) e.1.body) placed.item placed.changed in
      let has = bounds v bytes placed.place (item_of (made.other e.0) e.1.body) kept (in_volume v bytes placed.place (item_of (made.other e.0) e.1.body) here) in
      let entries = entries_of e.1 in
      let names : All IsName (map (λ (c : Child). c.name) entries) =
      subst (λ (xs : List (List ℕ)). All IsName xs) (sym placed.names) (All-map IsName (λ (row : ListRow). row.name) (list_rows b.now placed.place) (rows_named placed.place)) in
      let many : length entries ≡ length (list_rows b.now placed.place) =
      sym (length-map entries (λ (c : Child). c.name)) ∙ ap (λ (xs : List (List ℕ)). length xs) placed.names ∙ length-map (list_rows b.now placed.place) (λ (row : ListRow). row.name) in
      let lows = low_entries entries (2 ^ 64) (λ q l. omega (arith, (placed.children q l).0, low)) in
      let named = named_entries entries names in
      record {
        label = placed.label;
        attrs = subst (λ (a : Attrs). IsAttrs a) (item_attrs (made.other e.0) e.1.body) has.attrs;
        tail = tail_of (made.other e.0) e.1.body has.fields (record {
          few = omega (arith, many, rows_few placed.place);
          each = λ i d below. record { name = named i d below; node = lows i d below };
          rising = new.rises;
        });
        size = small;
        children = placed.children;
        place = placed.place;
        stands = placed.stands;
      }

  small_all : All IsSmall m.nodes
  small_all = small_nodes m.nodes (subst (λ (xs : List (ℕ × ℕ)). All IsShort xs) making.files
      (All-map IsShort {Y = ℕ × Blob} (λ (x : ℕ × Blob). (x.0, x.1.length)) m.blobs (All-weaker (IsFilled told (next b m.nodes) stored made.other) (λ (x : ℕ × Blob). x.1.length ≤ max_file_bytes) (λ x f. f.small) m.blobs made.filled)))

  low_all : All (λ (e : ℕ × NodeRow). e.0 < 2 ^ 64) m.nodes
  low_all i d below =
      let at : slice_get m.nodes i ≡ Some (get_or m.nodes i d) = slice_get_read m.nodes (length m.nodes) i (get_or m.nodes i d) refl below (sym (get_or_default m.nodes i (get_or m.nodes i d) d below)) in
      omega (arith, below, fits, made.begins, made.are.numbered i (get_or m.nodes i d) at)

  pub is_built : IsBuilt after built
  is_built = record {
    base = base_root s id;
    over = root_over s id;
    numbered = made.are.numbered;
    each = λ i d below. each_new (get_or m.nodes i d) (made.up.each i d below) (made.are.each i d below) (small_all i d below) (low_all i d below);
    root = made.up.top;
    copied = made.up.copied;
    once = made.up.once;
    short = λ p k at. (path_bounds p (made.up.stood p k at)).1.short;
    files = making.files ∙ same_lengths m.nodes;
    filled = All-weaker (IsFilled told (next b m.nodes) stored made.other) _ (λ x f. f.many) m.blobs made.filled;
  }
