-- That the tests for "the same" tell what is equal.
use Rattle.std.proofs.Common.{◌≡◌, ℕ, Bool, ◌&&◌, List, nat_eq, ◌==◌, ap}
use Rattle.std.specs.Bool.{Decides}
use Rattle.std.specs.Cmp.{first_so, second_so, unsigned_Decides}
use Rattle.std.specs.Cmp.Lexicographic.{pointwise, pointwise_decides}
use Rattle.tm_tree.specs.declared.attrs.Attrs.{Attrs}
use Rattle.tm_tree.specs.declared.item.Item.{Item}
use Rattle.tm_tree.specs.declared.item.Item.TheVariants.{Folder, File, Link}
use Rattle.tm_base.proofs.PathLemmas.{same_bytes}
use Rattle.tm_tree.specs.Extras.{Values}
use Rattle.tm_tree.specs.Items.{same_extras, same_attrs, same_item}

pub both : {a b : Bool} {P Q : Type 0} → Decides a P → Decides b Q → Decides (a && b) (P × Q)
both {a} {b} d e = (λ h. (d.0 (first_so a b h), e.0 (second_so a b h)), λ h. rw (d.1 h.0) (e.1 h.1))

-- a test of the parts is a test of the whole
pub onto : {a : Bool} {P Q : Type 0} → (P → Q) → (Q → P) → Decides a P → Decides a Q
onto f g d = (λ h. f (d.0 h), λ q. d.1 (g q))

same_value : (a b : List ℕ × List ℕ) → Decides (pointwise nat_eq a.0 b.0 && pointwise nat_eq a.1 b.1) (a ≡ b)
same_value a b =
    onto (λ (h : (a.0 ≡ b.0) × (a.1 ≡ b.1)). λ i. (h.0 i, h.1 i))
    (λ e. (ap (λ (x : List ℕ × List ℕ). x.0) e, ap (λ (x : List ℕ × List ℕ). x.1) e)) (both (same_bytes a.0 b.0) (same_bytes a.1 b.1))

same_extras_decides : (a b : Values) → Decides (same_extras a b) (a ≡ b)
same_extras_decides = pointwise_decides same_value

abbrev SameFields : Attrs → Attrs → Type 0
SameFields a b = ((((a.mode ≡ b.mode) × (a.uid ≡ b.uid)) × (a.gid ≡ b.gid)) × (a.modified ≡ b.modified)) × (a.extra ≡ b.extra)

from_fields : (a b : Attrs) → SameFields a b → a ≡ b
from_fields a b h i = record { mode = h.0.0.0.0 i; uid = h.0.0.0.1 i; gid = h.0.0.1 i; modified = h.0.1 i; extra = h.1 i }

to_fields : (a b : Attrs) → a ≡ b → SameFields a b
to_fields a b e = ((((ap (λ (x : Attrs). x.mode) e, ap (λ (x : Attrs). x.uid) e), ap (λ (x : Attrs). x.gid) e), ap (λ (x : Attrs). x.modified) e), ap (λ (x : Attrs). x.extra) e)

pub same_attrs_decides : (a b : Attrs) → Decides (same_attrs a b) (a ≡ b)
same_attrs_decides a b =
    onto (from_fields a b) (to_fields a b)
    (both (both (both (both (unsigned_Decides a.mode b.mode) (unsigned_Decides a.uid b.uid)) (unsigned_Decides a.gid b.gid)) (unsigned_Decides a.modified b.modified)) (same_extras_decides a.extra b.extra))

abbrev SameParts : Attrs → ℕ → List ℕ → Attrs → ℕ → List ℕ → Type 0
SameParts a s x b t y = ((a ≡ b) × (s ≡ t)) × (x ≡ y)

parts_decide : (a : Attrs) (s : ℕ) (x : List ℕ) (b : Attrs) (t : ℕ) (y : List ℕ) → Decides (same_attrs a b && (s == t) && pointwise nat_eq x y) (SameParts a s x b t y)
parts_decide a s x b t y = both (both (same_attrs_decides a b) (unsigned_Decides s t)) (same_bytes x y)

pub same_item_decides : (a b : Item) → Decides (same_item a b) (a ≡ b)
same_item_decides (Folder a) (Folder b) = onto (λ e. ap Folder e) (λ e. cc) (same_attrs_decides a b)
same_item_decides (File a s x) (File b t y) = onto (λ (h : SameParts a s x b t y). λ i. File (h.0.0 i) (h.0.1 i) (h.1 i)) (λ e. ((cc, cc), cc)) (parts_decide a s x b t y)
same_item_decides (Link a s x) (Link b t y) = onto (λ (h : SameParts a s x b t y). λ i. Link (h.0.0 i) (h.0.1 i) (h.1 i)) (λ e. ((cc, cc), cc)) (parts_decide a s x b t y)
same_item_decides (Folder a) (File b t y) = (λ e. cc, λ e. cc)
same_item_decides (Folder a) (Link b t y) = (λ e. cc, λ e. cc)
same_item_decides (File a s x) (Folder b) = (λ e. cc, λ e. cc)
same_item_decides (File a s x) (Link b t y) = (λ e. cc, λ e. cc)
same_item_decides (Link a s x) (Folder b) = (λ e. cc, λ e. cc)
same_item_decides (Link a s x) (File b t y) = (λ e. cc, λ e. cc)
