-- Trees: rows of (path, item) in path order, and what stands at each path.
use Rattle.std.specs.Prelude.{◌≡◌, ℕ, ◌-◌, Bool, true, false, not, ◌&&◌, if◌then◌else◌, Option, Some, None, is_some, List, [], ◌∷◌, ◌++◌, length, drop, filter, map, slice_index_or}
use Rattle.std.specs.List.Sorted.{IsStrictlySortedBy}
use Rattle.std.specs.Map.{keys_of, lookup, remove_entry, set_value}
use Rattle.std.specs.BTreeMap.{insert_entry, is_at}
use Rattle.tm_base.specs.Paths.{Names, path_cmp, same_path, is_prefix, is_root, parent_of}
use Rattle.tm_tree.specs.declared.item.Item.{Item}
use Rattle.tm_tree.specs.Items.{is_folder, dated}

-- the root's path is the empty list; each item stands at its path, and nothing is nested
abbrev pub Tree : Type 0
Tree = List (Names × Item)

-- what stands at p
abbrev pub at : {X : Type 0} → List (Names × X) → Names → Option X
at t p = lookup (is_at (path_cmp p)) t

abbrev pub item_at : Tree → Names → Option Item
item_at t p = at t p

-- another item at p, in place of the one that stands there
abbrev pub put : {X : Type 0} → List (Names × X) → Names → X → List (Names × X)
put t p e = insert_entry path_cmp t p e

abbrev pub put_all : {X : Type 0} → List (Names × X) → List (Names × X) → List (Names × X)
put_all t [] = t
put_all t (row ∷ rows) = put_all (put t row.0 row.1) rows

-- nothing at p
abbrev pub without : Tree → Names → Tree
without t p = remove_entry (is_at (path_cmp p)) t

abbrev pub changed_at : (Item → Item) → Option Item → Tree → Names → Tree
changed_at f None t p = t
changed_at f (Some e) t p = set_value (is_at (path_cmp p)) t (f e)

-- the item at p, if one stands there, changed
abbrev pub change_at : (Item → Item) → Tree → Names → Tree
change_at f t p = changed_at f (item_at t p) t p

-- the folder at p gets this date
abbrev pub touch : Tree → Names → ℕ → Tree
touch t p moment = change_at (λ e. dated e moment) t p

-- the last name of a path
abbrev pub last_of : Names → List ℕ
last_of p = slice_index_or p (length p - 1) []

-- q is the path of an entry of the folder at p
abbrev pub is_child : Names → Names → Bool
is_child p q = not (is_root q) && same_path (parent_of q) p

-- the entries of the folder at p, by rising name
abbrev pub children : {X : Type 0} → List (Names × X) → Names → List (Names × X)
children t p = filter (λ row. is_child p row.0) t

-- what stands at p and beneath it
abbrev pub beneath : {X : Type 0} → List (Names × X) → Names → List (Names × X)
beneath t p = filter (λ row. is_prefix p row.0) t

-- the path q, where what stands at a and beneath it is moved to b
abbrev pub rekey : Names → Names → Names → Names
rekey a b q = if is_prefix a q then b ++ drop (length a) q else q

abbrev pub rekeyed : Names → Names → Tree → Tree
rekeyed a b t = map (λ row. (rekey a b row.0, row.1)) t

-- the tree, where what stands at a and beneath it is moved to b
abbrev pub moved : Tree → Names → Names → Tree
moved t a b = put_all [] (rekeyed a b t)

abbrev pub is_some_folder : Option Item → Bool
is_some_folder None = false
is_some_folder (Some e) = is_folder e

-- whether a folder stands at p
abbrev pub folder_at : Tree → Names → Bool
folder_at t p = is_some_folder (item_at t p)

-- the rows stand in path order, the root is a folder, and each other item stands in a folder
pub record IsTree (t : Tree) : Type 0 where
  pub in_order : IsStrictlySortedBy path_cmp (keys_of t)
  pub rooted : folder_at t [] ≡ true
  pub placed : (p : Names) → is_root p ≡ false → is_some (item_at t p) ≡ true → folder_at t (parent_of p) ≡ true

-- a new volume's tree: the root alone
abbrev pub new_tree : Item → Tree
new_tree root = ([], root) ∷ []
