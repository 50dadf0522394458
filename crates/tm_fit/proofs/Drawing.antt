-- The stamps that a change leaves: each is an old one, of an item that is as it was, or the one that it draws.
use Rattle.std.proofs.Common.{◌≡◌, ◌⊎◌, ℕ, ◌+◌, ◌<◌, ◌≤◌, Bool, true, false, cond, ◌++◌, length, drop, refl, sym, ap, ◌∙◌, subst, Option, Some, None, is_some, if◌then◌else◌, arith, inl, inr}
use Rattle.std.proofs.lemmas.List.Prefix.{front_rest}
use Rattle.std.specs.BTreeMap.{is_at}
use Rattle.std.specs.Option.{option_map}
use Rattle.tm_base.specs.Paths.{Names, is_prefix, path_cmp}
use Rattle.tm_base.proofs.PathLemmas.{prefix_is, is_prefix_of_append}
use Rattle.tm_tree.specs.declared.item.Item.{Item}
use Rattle.tm_tree.specs.declared.item.Item.TheVariants.{Folder, File, Link}
use Rattle.tm_tree.specs.Items.{stamp_of, dated}
use Rattle.tm_tree.specs.Trees.{Tree, IsTree, item_at, put, without, touch, change_at, moved}
use Rattle.tm_tree.proofs.AtPaths.{item_at-put}
use Rattle.tm_tree.proofs.CopyProofs.{at_is}
use Rattle.tm_tree.proofs.Edits.{item_at-change, item_at-without}
use Rattle.tm_tree.proofs.MovesKept.{moved_at}
use Rattle.tm_fit.specs.Fit.{StampsBelow, StampsDiffer, StampsAgree}

abbrev At : Type 0
At = Names → Option Item

-- g is f with items moved along `from`, and with the new stamp at one path
pub record Draws (next : ℕ) (f g : At) : Type 1 where
  pub from : Names → Names
  pub fresh : Names → Type 0
  pub same : (p q : Names) → fresh p → fresh q → p ≡ q
  pub each : (q : Names) (e : Item) (s : ℕ) → g q ≡ Some e → stamp_of e ≡ Some s → (f (from q) ≡ Some e) ⊎ ((s ≡ next) × fresh q)
  pub one : (p q : Names) → is_some (g p) ≡ true → is_some (g q) ≡ true → from p ≡ from q → p ≡ q

no_some : {A : Type 0} (s : ℕ) → None ≡ Some s → A
no_some s h = absurd (cc)

clash : {A : Type 0} → false ≡ true → A
clash h = absurd (cc)

is_there : (o : Option Item) (e : Item) → o ≡ Some e → is_some o ≡ true
is_there o e h = ap is_some h

module _ (next : ℕ) (t u : Tree) (d : Draws next (item_at t) (item_at u)) where
  pub drawn_below : (count : ℕ) → 1 ≤ count → StampsBelow next t → StampsBelow (next + count) u
  drawn_below count some h q e s there is =
      elim (d.each q e s there is) [
        | inl x ↦ let k : s < next = h (d.from q) e s x is in omega arith
        | inr x ↦ let k : s ≡ next = x.0 in omega arith
      ]

  pub drawn_differ : StampsBelow next t → StampsDiffer t → StampsDiffer u
  drawn_differ below differ p q c e s here there sc se = settle (d.each p c s here sc) (d.each q e s there se)
    where
      over : {A : Type 0} → s ≡ next → s < next → A
      over a b = absurd (omega arith)

      settle : (item_at t (d.from p) ≡ Some c) ⊎ ((s ≡ next) × d.fresh p) → (item_at t (d.from q) ≡ Some e) ⊎ ((s ≡ next) × d.fresh q) → p ≡ q
      settle (inl x) (inl y) = d.one p q (is_there (item_at u p) c here) (is_there (item_at u q) e there) (differ (d.from p) (d.from q) c e s x y sc se)
      settle (inl x) (inr y) = over y.0 (below (d.from p) c s x sc)
      settle (inr x) (inl y) = over x.0 (below (d.from q) e s y se)
      settle (inr x) (inr y) = d.same p q x.1 y.1

  -- a tree with stamps below the new one agrees as before
  pub drawn_agree : (base : Tree) → StampsBelow next base → StampsAgree base t → StampsAgree base u
  drawn_agree base below agree p q c e s here there sc se =
      elim (d.each q e s there se) [
        | inl x ↦ agree p (d.from q) c e s here x sc se
        | inr x ↦ absurd (over x.0 (below p c s here sc))
      ]
    where
      over : s ≡ next → s < next → ⊥
      over a b = omega arith

-- ---- the shapes of changes

pub same_items : (next : ℕ) (t : Tree) → Draws next (item_at t) (item_at t)
same_items next t = record { from = λ q. q; fresh = λ q. ⊥; same = λ p q a b. absurd a; each = λ q e s there is. inl there; one = λ p q here there e. e }

abbrev stamp_in : Option Item → Option ℕ
stamp_in None = None
stamp_in (Some e) = stamp_of e

-- an item put at p has the stamp that is drawn, or none
pub put_items : (next : ℕ) (t : Tree) (p : Names) (x : Item) → ((s : ℕ) → stamp_of x ≡ Some s → s ≡ next) → Draws next (item_at t) (item_at (put t p x))
put_items next t p x new = record {
  from = λ q. q;
  fresh = λ q. q ≡ p;
  same = λ a b h k. h ∙ sym k;
  each = λ q e s there is. here_or q e s (is_at (path_cmp q) p) refl (sym (item_at-put t p x q) ∙ there) is;
  one = λ a b here there e. e;
}
  where
    here_or : (q : Names) (e : Item) (s : ℕ) (b : Bool) → is_at (path_cmp q) p ≡ b → cond b (Some x) (item_at t q) ≡ Some e → stamp_of e ≡ Some s → (item_at t q ≡ Some e) ⊎ ((s ≡ next) × (q ≡ p))
    here_or q e s true at there is = inr (new s (ap stamp_in there ∙ is), (at_is q p).0 at)
    here_or q e s false at there is = inl there

-- an item changed at p has the stamp that is drawn, or none, or is as it was
pub changed_items : (next : ℕ) (t : Tree) (p : Names) (f : Item → Item) → ((e : Item) (s : ℕ) → stamp_of (f e) ≡ Some s → (f e ≡ e) ⊎ (s ≡ next))
    → Draws next (item_at t) (item_at (change_at f t p))
changed_items next t p f new = record {
  from = λ q. q;
  fresh = λ q. p ≡ q;
  same = λ a b h k. sym h ∙ k;
  each = λ q e s there is. here_or q e s (is_at (path_cmp p) q) refl (item_at t q) refl (sym (item_at-change f t p q) ∙ there) is;
  one = λ a b here there e. e;
}
  where
    changed_or : (q : Names) (d e : Item) (s : ℕ) → item_at t q ≡ Some d → p ≡ q → Some (f d) ≡ Some e → stamp_of e ≡ Some s → (item_at t q ≡ Some e) ⊎ ((s ≡ next) × (p ≡ q))
    changed_or q d e s there at is st = elim (new d s (ap stamp_in is ∙ st)) [
      | inl same ↦ inl (there ∙ ap Some (sym same) ∙ is)
      | inr drawn ↦ inr (drawn, at)
    ]

    here_or : (q : Names) (e : Item) (s : ℕ) (b : Bool) → is_at (path_cmp p) q ≡ b → (o : Option Item) → item_at t q ≡ o → cond b (option_map f (item_at t q)) (item_at t q) ≡ Some e → stamp_of e ≡ Some s
        → (item_at t q ≡ Some e) ⊎ ((s ≡ next) × (p ≡ q))
    here_or q e s true at (Some d) there is st = changed_or q d e s there ((at_is p q).0 at) (ap (option_map f) (sym there) ∙ is) st
    here_or q e s true at None there is st = no_some s (ap stamp_in (ap (option_map f) (sym there) ∙ is) ∙ st)
    here_or q e s false at o there is st = inl is

-- dates change no file or link
undated : (moment : ℕ) (d e : Item) (s : ℕ) → dated d moment ≡ e → stamp_of e ≡ Some s → d ≡ e
undated moment (Folder a) e s is st = no_some s (ap stamp_of is ∙ st)
undated moment (File a t b) e s is st = is
undated moment (Link a t b) e s is st = is

dated_same : (moment : ℕ) (e : Item) (s : ℕ) → stamp_of (dated e moment) ≡ Some s → dated e moment ≡ e
dated_same moment (Folder a) s is = no_some s is
dated_same moment (File a t b) s is = refl
dated_same moment (Link a t b) s is = refl

-- a change, and then a date
pub dated_items : (next : ℕ) (t u : Tree) (r : Names) (moment : ℕ) → Draws next (item_at t) (item_at u) → Draws next (item_at t) (item_at (touch u r moment))
dated_items next t u r moment d = record {
  from = d.from;
  fresh = d.fresh;
  same = d.same;
  each = λ q e s there is. d.each q e s (undate q e s (is_at (path_cmp r) q) (item_at u q) refl (sym (item_at-change (λ x. dated x moment) u r q) ∙ there) is) is;
  one = λ p q here there e. d.one p q (stood p here) (stood q there) e;
}
  where
    undate : (q : Names) (e : Item) (s : ℕ) (b : Bool) (o : Option Item) → item_at u q ≡ o → cond b (option_map (λ x. dated x moment) (item_at u q)) (item_at u q) ≡ Some e → stamp_of e ≡ Some s → item_at u q ≡ Some e
    undate q e s false o there is st = is
    undate q e s true None there is st = no_some s (ap stamp_in (ap (option_map (λ x. dated x moment)) (sym there) ∙ is) ∙ st)
    undate q e s true (Some x) there is st =
        let same : Some (dated x moment) ≡ Some e = ap (option_map (λ y. dated y moment)) (sym there) ∙ is in
        there ∙ ap Some (undated moment x e s (inner (dated x moment) e same) st)
      where
        inner : (a b : Item) → Some a ≡ Some b → a ≡ b
        inner a b h = cc

    some_kept : (b : Bool) (o : Option Item) → is_some (cond b (option_map (λ x. dated x moment) o) o) ≡ is_some o
    some_kept true None = refl
    some_kept true (Some x) = refl
    some_kept false o = refl

    stood : (p : Names) → is_some (item_at (touch u r moment) p) ≡ true → is_some (item_at u p) ≡ true
    stood p h = sym (some_kept (is_at (path_cmp r) p) (item_at u p)) ∙ ap is_some (sym (item_at-change (λ x. dated x moment) u r p)) ∙ h

pub without_items : (next : ℕ) (t : Tree) (p : Names) → IsTree t → Draws next (item_at t) (item_at (without t p))
without_items next t p tree = record {
  from = λ q. q;
  fresh = λ q. ⊥;
  same = λ a b h k. absurd h;
  each = λ q e s there is. inl (left (is_at (path_cmp p) q) (item_at t q) e (sym (item_at-without t p q tree.in_order) ∙ there));
  one = λ a b here there e. e;
}
  where
    left : (b : Bool) (o : Option Item) (e : Item) → cond b None o ≡ Some e → o ≡ Some e
    left true o e h = absurd (cc)
    left false o e h = h

module _ (next : ℕ) (t : Tree) (a b : Names) (tree : IsTree t) (free : item_at t b ≡ None) where
  abbrev back : Bool → Names → Names
  back on q = if on then a ++ drop (length b) q else q

  at_moved : (q : Names) (x y : Bool) → is_prefix b q ≡ x → is_prefix a q ≡ y → item_at (moved t a b) q ≡ (if x then item_at t (a ++ drop (length b) q) else if y then None else item_at t q)
  at_moved q x y h k = moved_at t a b q tree free ∙ (λ i. if h i then item_at t (a ++ drop (length b) q) else if k i then None else item_at t q)

  moved_from : (q : Names) (x y : Bool) (e : Item) → is_prefix b q ≡ x → is_prefix a q ≡ y → item_at (moved t a b) q ≡ Some e → item_at t (back x q) ≡ Some e
  moved_from q true y e h k is = sym (at_moved q true y h k) ∙ is
  moved_from q false false e h k is = sym (at_moved q false false h k) ∙ is
  moved_from q false true e h k is = absurd (nothing (sym (at_moved q false true h k) ∙ is))
    where
      nothing : None ≡ Some e → ⊥
      nothing n = cc

  -- what is not moved stands off a
  off_a : (q : Names) (y : Bool) → is_prefix a q ≡ y → is_some (item_at (moved t a b) q) ≡ true → is_prefix b q ≡ false → y ≡ false
  off_a q true k there h = clash (sym (ap is_some (at_moved q false true h k)) ∙ there)
  off_a q false k there h = refl

  on_a : (rest : Names) → is_prefix a (a ++ rest) ≡ true
  on_a rest = is_prefix_of_append a (a ++ rest) rest refl

  back_one : (p q : Names) (x y : Bool) → is_prefix b p ≡ x → is_prefix b q ≡ y → is_some (item_at (moved t a b) p) ≡ true → is_some (item_at (moved t a b) q) ≡ true
      → back x p ≡ back y q → p ≡ q
  back_one p q true true h k here there e =
      prefix_is b p h ∙ ap (λ (z : Names). b ++ z) (sym (front_rest (a ++ drop (length b) p) a (drop (length b) p) refl) ∙ front_rest (a ++ drop (length b) p) a (drop (length b) q) e) ∙ sym (prefix_is b q k)
  back_one p q true false h k here there e = clash (sym (off_a q (is_prefix a q) refl there k) ∙ subst (λ (z : Names). is_prefix a z ≡ true) e (on_a (drop (length b) p)))
  back_one p q false true h k here there e = clash (sym (off_a p (is_prefix a p) refl here h) ∙ subst (λ (z : Names). is_prefix a z ≡ true) (sym e) (on_a (drop (length b) q)))
  back_one p q false false h k here there e = e

  pub moved_items : Draws next (item_at t) (item_at (moved t a b))
  moved_items = record {
    from = λ q. back (is_prefix b q) q;
    fresh = λ q. ⊥;
    same = λ p q x y. absurd x;
    each = λ q e s there is. inl (moved_from q (is_prefix b q) (is_prefix a q) e refl refl there);
    one = λ p q here there e. back_one p q (is_prefix b p) (is_prefix b q) refl refl here there e;
  }
