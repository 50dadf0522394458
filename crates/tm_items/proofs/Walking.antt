-- Walks down the names of a path.
use Rattle.std.proofs.Common.{◌≡◌, ℕ, suc, zero, ◌+◌, ◌-◌, ◌<◌, ◌≤◌, ◌==◌, true, false, List, [], ◌∷◌, ◌++◌, length, refl, sym, ap, ◌∙◌, subst, Option, Some, None, is_some, arith, append_assoc, append-nil, zero-add, nat_lt}
use Rattle.std.proofs.lemmas.Bool.Decides.{nat_tests}
use Rattle.tm_base.proofs.Facts.{true_false}
use Rattle.tm_base.specs.Paths.{Names}
use Rattle.tm_items.specs.Placings.{Placed, Items, IsChild, Walks}
use Rattle.tm_items.specs.Rules.{climbs, IsSound}
use Rattle.tm_items.specs.Computed.{path_to, under}

-- ---- a walk and its parts

pub walks_on : (items : Items) (a k n : ℕ) (p q : Names) → Walks items a p k → Walks items k q n → Walks items a (p ++ q) n
walks_on items a k n [] q w v = subst (λ (x : ℕ). Walks items x q n) (sym w) v
walks_on items a k n (name ∷ p) q w v = (w.0, w.1, walks_on items w.0 k n p q w.2 v)

pub walk_parts : (items : Items) (a n : ℕ) (p q : Names) → Walks items a (p ++ q) n → (k : ℕ) × Walks items a p k × Walks items k q n
walk_parts items a n [] q w = (a, refl, w)
walk_parts items a n (name ∷ p) q w = let r = walk_parts items w.0 n p q w.2 in (r.0, (w.0, w.1, r.1), r.2)

-- ---- a number has one path

up_one : (items : Items) (a k g : ℕ) (name : List ℕ) → IsChild items a name k → path_to (suc g) items k ≡ path_to g items a ++ name ∷ []
unfolding path_to
up_one items a k g name c = rw (c.not_root, c.is, c.name, c.parent) refl

pub path_along : (items : Items) (a n : ℕ) (p : Names) (g : ℕ) → Walks items a p n → path_to (length p + g) items n ≡ path_to g items a ++ p
path_along items a n [] g w = rw (zero-add, append-nil) (ap (path_to g items) (sym w))
path_along items a n (name ∷ p) g w =
    let more : length (name ∷ p) + g ≡ length p + suc g = omega arith in
    ap (λ (f : ℕ). path_to f items n) more
    ∙ path_along items w.0 n p (suc g) w.2
    ∙ ap (λ (q : Names). q ++ p) (up_one items a w.0 g name w.1)
    ∙ append_assoc (path_to g items a) (name ∷ []) p

root_path : (items : Items) (g : ℕ) → path_to g items 1 ≡ []
unfolding path_to
root_path items zero = refl
root_path items (suc g) = refl

-- from the root, at any number of steps that is enough
pub path_is : (items : Items) (n : ℕ) (p : Names) (f : ℕ) → Walks items 1 p n → length p ≤ f → path_to f items n ≡ p
path_is items n p f w h =
    let g : (g : ℕ) × (f ≡ length p + g) = (f - length p, omega arith) in
    ap (λ (x : ℕ). path_to x items n) g.1 ∙ path_along items 1 n p g.0 w ∙ ap (λ (q : Names). q ++ p) (root_path items g.0)

pub one_path : (items : Items) (n : ℕ) (p q : Names) → Walks items 1 p n → Walks items 1 q n → p ≡ q
one_path items n p q w v = sym (path_is items n p (length p + length q) w (omega arith)) ∙ path_is items n q (length p + length q) v (omega arith)

-- ---- a path has one number

abbrev pub OneEach : Items → Type 0
OneEach items = (a : ℕ) (name : List ℕ) (k m : ℕ) → IsChild items a name k → IsChild items a name m → k ≡ m

pub one_number : (items : Items) → OneEach items → (a n m : ℕ) (p : Names) → Walks items a p n → Walks items a p m → n ≡ m
one_number items one a n m [] w v = sym w ∙ v
one_number items one a n m (name ∷ p) w v =
    one_number items one w.0 n m p w.2 (subst (λ (x : ℕ). Walks items x p m) (sym (one a name w.0 v.0 w.1 v.1)) v.2)

not_below : (items : Items) → IsSound items → (a : ℕ) (name : List ℕ) (k m : ℕ) → IsChild items a name k → IsChild items a name m → k < m → ⊥
not_below items sound a name k m c d low =
    let first : (k == 1) ≡ true = ((sound m).placed d.placed d.is d.not_root).first k c.placed low c.is (c.parent ∙ sym d.parent) (c.name ∙ sym d.name) in
    cc (first, c.not_root)

same_or : (k m : ℕ) → (k < m → ⊥) → (m < k → ⊥) → k ≡ m
same_or k m h g =
    elim (nat_lt k m) as (λ b. nat_lt k m ≡ b → k ≡ m) [
      | true ↦ λ e. absurd (h (grind (arith, nat_tests)))
      | false ↦ λ e. elim (nat_lt m k) as (λ b. nat_lt m k ≡ b → k ≡ m) [ true ↦ λ d. absurd (g (grind (arith, nat_tests))) | false ↦ λ d. grind (arith, nat_tests) ] refl
    ] refl

pub one_each : (items : Items) → IsSound items → OneEach items
one_each items sound a name k m c d = same_or k m (not_below items sound a name k m c d) (not_below items sound a name m k d c)

-- ---- walks over parents

one_less : (items : Items) (a k : ℕ) (name : List ℕ) (g : ℕ) → IsChild items a name k → climbs g items k ≡ true → (h : ℕ) × (g ≡ suc h) × (climbs h items a ≡ true)
unfolding climbs
one_less items a k name zero c h = cc (h, c.not_root)
one_less items a k name (suc g) c h = (g, refl, subst (λ (x : ℕ). climbs g items x ≡ true) c.parent (rw (c.not_root, c.is) at h))

pub climbs_far : (items : Items) (a n : ℕ) (p : Names) (f : ℕ) → Walks items a p n → climbs f items n ≡ true → (g : ℕ) × (f ≡ length p + g) × (climbs g items a ≡ true)
climbs_far items a n [] f w h = (f, sym (zero-add f), subst (λ (x : ℕ). climbs f items x ≡ true) (sym w) h)
climbs_far items a n (name ∷ p) f w h =
    let r = climbs_far items w.0 n p f w.2 h in
    let up = one_less items a w.0 name r.0 w.1 r.2 in
    (up.0, r.1 ∙ omega (arith, up.1), up.2)

at_root : (items : Items) (g : ℕ) → climbs g items 1 ≡ true
unfolding climbs
at_root items zero = refl
at_root items (suc g) = refl

one_more : (items : Items) (a k : ℕ) (name : List ℕ) (g : ℕ) → IsChild items a name k → climbs g items a ≡ true → climbs (suc g) items k ≡ true
unfolding climbs
one_more items a k name g c h = rw (c.not_root, c.is, c.parent) h

down : (items : Items) (a n : ℕ) (p : Names) (g : ℕ) → Walks items a p n → climbs g items a ≡ true → climbs (length p + g) items n ≡ true
down items a n [] g w h = rw (zero-add) (subst (λ (x : ℕ). climbs g items x ≡ true) w h)
down items a n (name ∷ p) g w h =
    let more : length (name ∷ p) + g ≡ length p + suc g = omega arith in
    ap (λ (f : ℕ). climbs f items n) more ∙ down items w.0 n p (suc g) w.2 (one_more items a w.0 name g w.1 h)

pub climbs_walk : (items : Items) (n : ℕ) (p : Names) (f : ℕ) → Walks items 1 p n → length p ≤ f → climbs f items n ≡ true
climbs_walk items n p f w h =
    let g : (g : ℕ) × (f ≡ length p + g) = (f - length p, omega arith) in
    ap (λ (x : ℕ). climbs x items n) g.1 ∙ down items 1 n p g.0 w (at_root items g.0)

abbrev pub HaveNames : Items → Type 0
HaveNames items = (n : ℕ) (x : Placed) → items n ≡ Some x → (n == 1) ≡ false → is_some x.name ≡ true

to_child : (items : Items) (q : Names) (n : ℕ) (x : Placed) (o : Option (List ℕ)) → items n ≡ Some x → (n == 1) ≡ false → x.name ≡ o → is_some o ≡ true → Walks items 1 q x.parent → Walks items 1 (under q o) n
to_child items q n x None is out e h w = cc
to_child items q n x (Some name) is out e h w = walks_on items 1 x.parent n q (name ∷ []) w (n, record { placed = x; is = is; parent = refl; name = e; not_root = out }, refl)

is_one : (n : ℕ) → (n == 1) ≡ true → 1 ≡ n
is_one n h = grind (arith, nat_tests)

-- the path of a number leads to it
pub climbed : (items : Items) → HaveNames items → (f n : ℕ) → climbs f items n ≡ true → Walks items 1 (path_to f items n) n
unfolding climbs path_to
climbed items named zero n h = is_one n h
climbed items named (suc f) n h =
    elim (n == 1) as (λ b. (n == 1) ≡ b → Walks items 1 (path_to (suc f) items n) n) [
      | true ↦ λ e. rw e (is_one n e)
      | false ↦ λ e. elim (items n) as (λ o. items n ≡ o → Walks items 1 (path_to (suc f) items n) n) [
        | None ↦ λ is. absurd (true_false (sym (rw (e, is) at h)))
        | Some x ↦ λ is. rw (e, is) (to_child items (path_to f items x.parent) n x x.name is e refl (named n x is e) (climbed items named f x.parent (rw (e, is) at h)))
      ] refl
    ] refl

pub have_names : (items : Items) → IsSound items → HaveNames items
have_names items sound n x is out = ((sound n).placed x is out).named

near : (items : Items) → IsSound items → (n : ℕ) (x : Placed) → items n ≡ Some x → climbs 64 items n ≡ true
near items sound n x is =
    elim (n == 1) as (λ b. (n == 1) ≡ b → climbs 64 items n ≡ true) [
      | true ↦ λ e. subst (λ (m : ℕ). climbs 64 items m ≡ true) (is_one n e) (climbs_walk items 1 [] 64 refl (omega arith))
      | false ↦ λ e. ((sound n).placed x is e).near
    ] refl

-- a sound placed's path: it leads to it, and has at most 64 names
pub reached : (items : Items) → IsSound items → (n : ℕ) (x : Placed) → items n ≡ Some x → Walks items 1 (path_to 64 items n) n
reached items sound n x is = climbed items (have_names items sound) 64 n (near items sound n x is)
