-- Items after each change.
use Rattle.std.proofs.Common.{◌≡◌, ◌+◌, ◌≤◌, false, [], ◌∷◌, ◌++◌, length, sym, ap, ◌∙◌, subst, Some, arith}
use Rattle.tm_base.specs.Paths.{Names, is_root, is_prefix, parent_of}
use Rattle.tm_tree.specs.Trees.{item_at, put, without, moved, touch, last_of}
use Rattle.tm_items.specs.Changes.{Are, with_item, PlaceReads, without_item, RemoveReads, date_item, MoveReads}
use Rattle.tm_items.proofs.Finding.{last_apart, folder_alike}
use Rattle.tm_items.proofs.Parents.{parent_short, above_parent, own_parent, not_one}
use Rattle.tm_items.proofs.Making.{Makes, made_reads, made_sound, on_new}
use Rattle.tm_items.proofs.Removing.{removed_reads, removed_sound, removed_walks}
use Rattle.tm_items.proofs.Dating.{date_reads, date_walks}
use Rattle.tm_items.proofs.Moving.{Moves, moved_reads, moved_sound, moved_walks}

-- ---- a new item

pub place_reads : PlaceReads
place_reads items t p n k moment e are can =
    let q = parent_of p in
    let name = last_of p in
    let parts = sym (last_apart p can.below) in
    let makes : Makes items t n k q name = record {
      sound = are.sound;
      reads = are.reads;
      free = can.free;
      not_root = can.not_root;
      into = can.into;
      folder = sym (folder_alike items t are q k can.into) ∙ can.folder;
      none = ap (item_at t) parts ∙ can.none;
    } in
    let new = with_item items n (record { parent = k; name = Some name; item = e }) in
    let made : Are new (put t (q ++ name ∷ []) e) = record {
      sound = made_sound items t n k q name e makes (omega (arith, parent_short p can.below, can.short));
      reads = made_reads items t n k q name e makes;
    } in
    date_reads new (put t p e) k q moment (subst (λ (r : Names). Are new (put t r e)) parts made) (on_new items t n k q name e makes 1 k q can.into)

-- ---- an item less

not_own : (p : Names) → is_root p ≡ false → parent_of p ≡ p → ⊥
not_own p below e = let same : length (parent_of p) ≡ length p = ap length e in omega (arith, same, parent_short p below)

pub remove_reads : RemoveReads
remove_reads items t p n k moment are can =
    let new = without_item items n in
    let less : Are new (without t p) = record { sound = removed_sound items t p n k are can; reads = removed_reads items t p n k are can } in
    date_reads new (without t p) k (parent_of p) moment less (removed_walks items t p n k are can k (parent_of p) (not_own p can.below) can.folder)

-- ---- a move

pub move_reads : MoveReads
move_reads items t a b n j k x moment are can =
    let q = parent_of b in
    let name = last_of b in
    let parts = sym (last_apart b can.below_to) in
    let moves : Moves items t n x a k q name = record {
      sound = are.sound;
      reads = are.reads;
      from = can.from;
      is = can.is;
      not_root = not_one items n a can.below can.from;
      into = can.into;
      folder = sym (folder_alike items t are q k can.into) ∙ can.folder;
      none = ap (item_at t) parts ∙ can.none;
      apart = ap (is_prefix a) parts ∙ can.apart;
      short = λ rest there. subst (λ (r : Names). length r + length rest ≤ 64) (sym parts) (can.short rest there);
    } in
    let new = with_item items n (record { parent = k; name = Some name; item = x.item }) in
    let reads : Are new (moved t a (q ++ name ∷ [])) = record { sound = moved_sound items t n x a k q name moves; reads = moved_reads items t n x a k q name moves } in
    let done : Are new (moved t a b) = subst (λ (r : Names). Are new (moved t a r)) parts reads in
    let out = moved_walks items t n x a k q name moves j (parent_of a) (own_parent a can.below) can.out_of in
    let into = moved_walks items t n x a k q name moves k q (above_parent a b can.apart) can.into in
    date_reads (date_item new j moment) (touch (moved t a b) (parent_of a) moment) k q moment
    (date_reads new (moved t a b) j (parent_of a) moment done out)
    (date_walks new (moved t a b) j (parent_of a) moment done out k q into)
