-- A folder dated.
use Rattle.std.proofs.Common.{◌≡◌, ℕ, ◌==◌, true, false, refl, sym, ap, ◌∙◌, subst, Some, arith}
use Rattle.std.proofs.lemmas.Bool.Decides.{nat_tests}
use Rattle.tm_base.specs.Paths.{Names}
use Rattle.tm_tree.specs.declared.item.Item.{Item}
use Rattle.tm_tree.specs.declared.item.Item.TheVariants.{Folder, File, Link}
use Rattle.tm_tree.specs.Items.{dated, is_folder, is_excluded}
use Rattle.tm_tree.specs.Trees.{Tree, put, touch}
use Rattle.tm_items.specs.Placings.{Placed, Items, Walks}
use Rattle.tm_items.specs.Rules.{IsSound}
use Rattle.tm_items.specs.Changes.{Are, CanReplace, replaced_items, date_placed, date_item}
use Rattle.tm_items.proofs.Finding.{from_root, stands_at}
use Rattle.tm_items.proofs.Replacing.{replace_reads, kept_walks, changed_is_put}

-- ---- another date

dated_folder : (moment : ℕ) (e : Item) → is_folder (dated e moment) ≡ is_folder e
dated_folder moment (Folder a) = refl
dated_folder moment (File a s b) = refl
dated_folder moment (Link a s b) = refl

dated_excluded : (moment : ℕ) (e : Item) → is_excluded (dated e moment) ≡ is_excluded e
dated_excluded moment (Folder a) = refl
dated_excluded moment (File a s b) = refl
dated_excluded moment (Link a s b) = refl

root_included : (items : Items) → IsSound items → (k : ℕ) (x : Placed) → items k ≡ Some x → (k == 1) ≡ true → is_excluded x.item ≡ false
root_included items sound k x is one =
    let root = (sound 1).root refl in
    let here : k ≡ 1 = grind (arith, nat_tests) in
    let same : Some x ≡ Some root.placed = sym is ∙ ap items here ∙ root.is in
    let placed_same : x ≡ root.placed = cc same in
    ap (λ (u : Placed). is_excluded u.item) placed_same ∙ root.root.included

module _ (items : Items) (t : Tree) (k : ℕ) (q : Names) (moment : ℕ) (are : Are items t) (walks : Walks items 1 q k) where
  can_date : (x : Placed) → items k ≡ Some x → CanReplace items k q x (dated x.item moment)
  can_date x is = record {
    stands = walks;
    is = is;
    folder = dated_folder moment x.item;
    included = λ one. dated_excluded moment x.item ∙ root_included items are.sound k x is one;
  }

  date_is : (x : Placed) → items k ≡ Some x → date_item items k moment ≡ replaced_items items k x (dated x.item moment)
  date_is x is = ap (λ o. date_placed o items k moment) is

  touch_is : (x : Placed) → items k ≡ Some x → touch t q moment ≡ put t q (dated x.item moment)
  touch_is x is = changed_is_put (λ e. dated e moment) t q x.item are.reads.in_order (stands_at items t are q k x walks is)

  pub date_reads : Are (date_item items k moment) (touch t q moment)
  date_reads =
      let there = from_root items are.sound k q walks in
      let x = there.0 in
      let reads = replace_reads items t k q x (dated x.item moment) are (can_date x there.1) in
      subst (λ (i : Items). Are i (touch t q moment)) (sym (date_is x there.1))
      (subst (λ (u : Tree). Are (replaced_items items k x (dated x.item moment)) u) (sym (touch_is x there.1)) reads)

  -- numbers stay
  pub date_walks : (m : ℕ) (r : Names) → Walks items 1 r m → Walks (date_item items k moment) 1 r m
  date_walks m r w =
      let there = from_root items are.sound k q walks in
      let x = there.0 in
      subst (λ (i : Items). Walks i 1 r m) (sym (date_is x there.1))
      (kept_walks items t k q x (dated x.item moment) are (can_date x there.1) m r w)
