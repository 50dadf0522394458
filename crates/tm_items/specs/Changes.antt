-- Numbered items after a change of them.
use Rattle.std.specs.Prelude.{◌≡◌, ℕ, ◌+◌, ◌≤◌, ◌==◌, true, false, is_some, if◌then◌else◌, Option, Some, None, ◌++◌, length}
use Rattle.tm_base.specs.Paths.{Names, parent_of, is_root, is_prefix}
use Rattle.tm_tree.specs.declared.item.Item.{Item}
use Rattle.tm_tree.specs.Items.{dated, is_folder, is_excluded}
use Rattle.tm_tree.specs.Trees.{Tree, item_at, put, folder_at, last_of}
use Rattle.tm_tree.specs.Changes.{place_at, remove_at, move_to}
use Rattle.tm_items.specs.Placings.{Placed, Items, Walks, ReadsAs}
use Rattle.tm_items.specs.Rules.{IsSound}

-- x stands under n
abbrev pub with_item : Items → ℕ → Placed → Items
with_item items n x = λ m. if m == n then Some x else items m

-- nothing stands under n
abbrev pub without_item : Items → ℕ → Items
without_item items n = λ m. if m == n then None else items m

abbrev pub date_placed : Option Placed → Items → ℕ → ℕ → Items
date_placed None items n moment = items
date_placed (Some x) items n moment = with_item items n (record { parent = x.parent; name = x.name; item = dated x.item moment })

-- what stands under n, if it is a folder, has this date
abbrev pub date_item : Items → ℕ → ℕ → Items
date_item items n moment = date_placed (items n) items n moment

-- the items keep the rules and read as this tree
pub record Are (items : Items) (t : Tree) : Type 0 where
  pub sound : IsSound items
  pub reads : ReadsAs items t

-- ---- a new item

-- n is free, k stands at the folder of p, and nothing at p
pub record CanPlace (items : Items) (t : Tree) (p : Names) (n k : ℕ) : Type 0 where
  pub below : is_root p ≡ false
  pub short : length p ≤ 64
  pub free : items n ≡ None
  pub not_root : (n == 1) ≡ false
  pub into : Walks items 1 (parent_of p) k
  pub folder : folder_at t (parent_of p) ≡ true
  pub none : item_at t p ≡ None

-- e stands under n at p, and its folder is dated
abbrev pub placed_items : Items → Names → ℕ → ℕ → ℕ → Item → Items
placed_items items p n k moment e = date_item (with_item items n (record { parent = k; name = Some (last_of p); item = e })) k moment

abbrev pub PlaceReads : Type 0
PlaceReads = (items : Items) (t : Tree) (p : Names) (n k moment : ℕ) (e : Item) → Are items t → CanPlace items t p n k
    → Are (placed_items items p n k moment e) (place_at t p moment e)

-- ---- another item in the place of one

-- x stands under n at p, and e is a folder exactly where it is; the root stays included
pub record CanReplace (items : Items) (n : ℕ) (p : Names) (x : Placed) (e : Item) : Type 0 where
  pub stands : Walks items 1 p n
  pub is : items n ≡ Some x
  pub folder : is_folder e ≡ is_folder x.item
  pub included : (n == 1) ≡ true → is_excluded e ≡ false

abbrev pub replaced_items : Items → ℕ → Placed → Item → Items
replaced_items items n x e = with_item items n (record { parent = x.parent; name = x.name; item = e })

abbrev pub ReplaceReads : Type 0
ReplaceReads = (items : Items) (t : Tree) (n : ℕ) (p : Names) (x : Placed) (e : Item) → Are items t → CanReplace items n p x e
    → Are (replaced_items items n x e) (put t p e)

-- ---- an item less

-- n stands at p, k at its folder, and no item stands in n
pub record CanRemove (items : Items) (t : Tree) (p : Names) (n k : ℕ) : Type 0 where
  pub stands : Walks items 1 p n
  pub below : is_root p ≡ false
  pub there : is_some (item_at t p) ≡ true
  pub folder : Walks items 1 (parent_of p) k
  pub empty : (m : ℕ) (x : Placed) → items m ≡ Some x → (m == 1) ≡ false → (x.parent == n) ≡ false

-- nothing stands under n, and its folder is dated
abbrev pub removed_items : Items → ℕ → ℕ → ℕ → Items
removed_items items n k moment = date_item (without_item items n) k moment

abbrev pub RemoveReads : Type 0
RemoveReads = (items : Items) (t : Tree) (p : Names) (n k moment : ℕ) → Are items t → CanRemove items t p n k
    → Are (removed_items items n k moment) (remove_at t p moment)

-- ---- a move

-- x stands under n at a, in the folder j; k stands at the folder of b, and nothing at b; b isn't at or beneath a, and
-- nothing would stand under too many names
pub record CanMove (items : Items) (t : Tree) (a b : Names) (n j k : ℕ) (x : Placed) : Type 0 where
  pub from : Walks items 1 a n
  pub is : items n ≡ Some x
  pub below : is_root a ≡ false
  pub out_of : Walks items 1 (parent_of a) j
  pub into : Walks items 1 (parent_of b) k
  pub below_to : is_root b ≡ false
  pub folder : folder_at t (parent_of b) ≡ true
  pub none : item_at t b ≡ None
  pub apart : is_prefix a b ≡ false
  pub short : (rest : Names) → is_some (item_at t (a ++ rest)) ≡ true → length b + length rest ≤ 64

-- x stands in the folder k under b's name, and both folders are dated
abbrev pub moved_items : Items → Names → ℕ → ℕ → ℕ → Placed → ℕ → Items
moved_items items b n j k x moment = date_item (date_item (with_item items n (record { parent = k; name = Some (last_of b); item = x.item })) j moment) k moment

abbrev pub MoveReads : Type 0
MoveReads = (items : Items) (t : Tree) (a b : Names) (n j k : ℕ) (x : Placed) (moment : ℕ) → Are items t → CanMove items t a b n j k x
    → Are (moved_items items b n j k x moment) (move_to t a b moment)
