-- Items as they are read by rising number.
use Rattle.std.proofs.Common.{◌≡◌, ℕ, suc, zero, nat_lt, ◌+◌, ◌-◌, ◌<◌, ◌≤◌, ◌==◌, Bool, true, false, not, ◌&&◌, List, refl, sym, ap, ◌∙◌, subst, Option, Some, None, is_some, arith, inl, inr}
use Rattle.std.proofs.lemmas.Bool.Decides.{nat_tests}
use Rattle.tm_base.proofs.Facts.{false_true, none_some}
use Rattle.tm_tree.specs.Items.{is_folder, is_excluded}
use Rattle.tm_items.specs.Placings.{Placed, Items}
use Rattle.tm_items.specs.Rules.{IsPlaced, IsRoot, RootStands, FollowsRules, is_root_placed, climbs}
use Rattle.tm_items.specs.Places.{at_name, place_of}
use Rattle.tm_items.specs.Index.{Numbers, IsChildAt, IsLoaded}
use Rattle.tm_items.specs.Laws.{LoadStarts, LoadSkips, LoadTakes, LoadEnds, RootBreaks, FolderBreaks, DepthBreaks, NameBreaks, PlaceBreaks}
use Rattle.tm_items.proofs.Avoiding.{number_is}
use Rattle.tm_items.proofs.Indexing.{which, hit, past, not_so, same_place}

off_root : (n : ℕ) → 2 ≤ n → (n == 1) ≡ false
off_root n two = grind (arith, nat_tests)

-- ---- the walk over parents, a step at a time

pub climbs_root : (items : Items) (f n : ℕ) → n ≡ 1 → climbs f items n ≡ true
unfolding climbs
climbs_root items zero n h = grind (arith, nat_tests)
climbs_root items (suc f) n h = let one : (n == 1) ≡ true = grind (arith, nat_tests) in rw one refl

other : (n : ℕ) → (n ≡ 1 → ⊥) → (n == 1) ≡ false
other n h = not_so (n == 1) (λ e. h (number_is n 1 e))

pub climbs_none : (items : Items) (f n : ℕ) → (n ≡ 1 → ⊥) → items n ≡ None → climbs f items n ≡ false
unfolding climbs
climbs_none items zero n h none = other n h
climbs_none items (suc f) n h none = rw (other n h, none) refl

climbs_more : (items : Items) (f n : ℕ) (x : Placed) → (n ≡ 1 → ⊥) → items n ≡ Some x → climbs (suc f) items n ≡ climbs f items x.parent
unfolding climbs
climbs_more items f n x h is = rw (other n h, is) refl

pub climbs_up : (items : Items) (i n : ℕ) (x : Placed) → i < 64 → (n ≡ 1 → ⊥) → items n ≡ Some x → climbs (64 - i) items n ≡ climbs (64 - (i + 1)) items x.parent
climbs_up items i n x low h is =
    let more : 64 - i ≡ suc (64 - (i + 1)) = omega arith in
    ap (λ (f : ℕ). climbs f items n) more ∙ climbs_more items (64 - (i + 1)) n x h is

pub climbs_end : (items : Items) (f n : ℕ) → f ≡ 0 → climbs f items n ≡ (n == 1)
unfolding climbs
climbs_end items zero n h = refl
climbs_end items (suc f) n h = absurd (omega arith)

-- ---- the root

and_parts : (a b : Bool) → (a && b) ≡ true → (a ≡ true) × (b ≡ true)
and_parts true b h = (refl, h)
and_parts false b h = false_true h

pub root_of : (x : Placed) → is_root_placed (Some x) ≡ true → IsRoot x
root_of x h =
    let a = and_parts ((x.parent == 0) && not (is_some x.name) && is_folder x.item) (not (is_excluded x.item)) h in
    let b = and_parts ((x.parent == 0) && not (is_some x.name)) (is_folder x.item) a.0 in
    let c = and_parts (x.parent == 0) (not (is_some x.name)) b.0 in
    record { parent = number_is x.parent 0 c.0; name = no_name x.name c.1; folder = b.1; included = none_true (is_excluded x.item) a.1 }
  where
    no_name : (o : Option (List ℕ)) → not (is_some o) ≡ true → o ≡ None
    no_name None h = refl
    no_name (Some n) h = false_true h

    none_true : (b : Bool) → not b ≡ true → b ≡ false
    none_true true h = false_true h
    none_true false h = refl

pub of_root : (x : Placed) → IsRoot x → is_root_placed (Some x) ≡ true
of_root x r =
    let zero_is : (x.parent == 0) ≡ true = ap (λ (n : ℕ). n == 0) r.parent in
    rw (zero_is, r.name, r.folder, r.included) refl

pub root_there : (items : Items) (o : Option Placed) → items 1 ≡ o → is_root_placed o ≡ true → RootStands items
root_there items None is h = false_true h
root_there items (Some x) is h = record { placed = x; is = is; root = root_of x h }

pub root_breaks : RootBreaks
root_breaks items h keeps = let r = keeps.root refl in false_true (sym h ∙ ap is_root_placed r.is ∙ of_root r.placed r.root)

-- where number 0 has no item, all numbers below the root's keep the rules
pub none_below_root : (items : Items) → items 0 ≡ None → (m : ℕ) → m < 1 → FollowsRules items m
none_below_root items low m lower = record { root = λ one. absurd (omega arith); placed = λ x is out. none_some (sym low ∙ ap items (zero_is m lower) ∙ is) }
  where
    zero_is : (m : ℕ) → m < 1 → 0 ≡ m
    zero_is m lower = omega arith

pub load_starts : LoadStarts
load_starts items none h =
    let r = root_there items (items 1) refl h in
    record {
      below = λ m low. record { root = λ one. r; placed = λ x is out. absurd (below_two m x low is out) };
      index_is = record {
        told = λ place k is. none_some is;
        low = λ place k is. none_some is;
        known = λ a k name low c. absurd (below_two k c.placed low c.is c.not_root);
      };
    }
  where
    zero_or : (m : ℕ) → m < 2 → (m == 1) ≡ false → 0 ≡ m
    zero_or m low out = grind (arith, nat_tests)

    below_two : (m : ℕ) (x : Placed) → m < 2 → items m ≡ Some x → (m == 1) ≡ false → ⊥
    below_two m x low is out = none_some (sym none ∙ ap items (zero_or m low out) ∙ is)

-- ---- a failing test breaks a rule

pub folder_breaks : FolderBreaks
folder_breaks items n x two is h keeps = false_true (sym h ∙ (keeps.placed x is (off_root n two)).in_folder)

pub depth_breaks : DepthBreaks
depth_breaks items n x two is h keeps = false_true (sym h ∙ (keeps.placed x is (off_root n two)).near)

pub name_breaks : NameBreaks
name_breaks items n x two is h keeps = false_true (ap is_some (sym h) ∙ (keeps.placed x is (off_root n two)).named)

pub place_breaks : PlaceBreaks
place_breaks items n k x numbers loaded two is at keeps =
    taken x.name refl (loaded.index_is.told (place_of x) k at)
  where
    taken : (o : Option (List ℕ)) → x.name ≡ o → IsChildAt items x.parent o k → ⊥
    taken None e c = c
    taken (Some name) e c =
        false_true (sym c.not_root ∙ (keeps.placed x is (off_root n two)).first k c.placed (loaded.index_is.low (place_of x) k at) c.is c.parent (c.name ∙ sym e))

-- ---- a number more

same_or_below : (m n : ℕ) → m < n + 1 → (m == n) ≡ false → m < n
same_or_below m n h off = grind (arith, nat_tests)

keep_more : (items : Items) (n : ℕ) → ((m : ℕ) → m < n → FollowsRules items m) → FollowsRules items n → (m : ℕ) → m < n + 1 → FollowsRules items m
keep_more items n below h m low = elim (m == n) as (λ b. (m == n) ≡ b → FollowsRules items m) [
  | true ↦ λ here. subst (λ (l : ℕ). FollowsRules items l) (sym (number_is m n here)) h
  | false ↦ λ off. below m (same_or_below m n low off)
] refl

pub load_skips : LoadSkips
load_skips items n numbers loaded two none = record {
  below = keep_more items n loaded.below (record { root = λ one. absurd (omega arith); placed = λ x is out. none_some (sym none ∙ is) });
  index_is = record {
    told = loaded.index_is.told;
    low = λ place k is. let l = loaded.index_is.low place k is in omega arith;
    known = λ a k name low c. loaded.index_is.known a k name (lower k c.placed low c.is) c;
  };
}
  where
    lower : (k : ℕ) (x : Placed) → k < n + 1 → items k ≡ Some x → k < n
    lower k x low is = same_or_below k n low (not_so (k == n) (λ here. none_some (sym none ∙ ap items (sym (number_is k n here)) ∙ is)))

-- in its place stands no item with a lower number
alone : (items : Items) (n : ℕ) (x : Placed) (numbers : Numbers) → IsLoaded items n numbers → (o : Option (List ℕ)) → x.name ≡ o → is_some o ≡ true → numbers (place_of x) ≡ None
    → (m : ℕ) (y : Placed) → m < n → items m ≡ Some y → y.parent ≡ x.parent → y.name ≡ x.name → (m == 1) ≡ true
alone items n x numbers loaded None e h free m y low is parent called = false_true h
alone items n x numbers loaded (Some name) e h free m y low is parent called =
    elim (m == 1) as (λ b. (m == 1) ≡ b → b ≡ true) [
      | true ↦ λ _. refl
      | false ↦ λ out.
          let at : numbers (at_name x.parent name) ≡ Some m = loaded.index_is.known x.parent m name low (record { placed = y; is = is; parent = parent; name = called ∙ e; not_root = out }) in
          none_some (sym free ∙ ap numbers (same_place (place_of x) (at_name x.parent name) refl e) ∙ at)
    ] refl

pub load_takes : LoadTakes
load_takes items n x old new loaded two is folder near named free sets = record {
  below = keep_more items n loaded.below (record {
    root = λ one. absurd (omega arith);
    placed = λ z is_z out. subst (λ (u : Placed). IsPlaced items n u) (same z is_z) (record { named = named; in_folder = folder; first = alone items n x old loaded x.name refl named free; near = near });
  });
  index_is = record {
    told = λ p k at. elim (which (place_of x) (Some n) old new p k sets at) [
      | inl here ↦ let n_is : n ≡ k = cc (here.1) in subst (λ (l : ℕ). IsChildAt items p.parent p.name l) n_is (subst (λ r. IsChildAt items r.parent r.name n) here.0 (child x.name refl named))
      | inr off ↦ loaded.index_is.told p k off.1
    ];
    low = λ p k at. elim (which (place_of x) (Some n) old new p k sets at) [
      | inl here ↦ let n_is : n ≡ k = cc (here.1) in omega arith
      | inr off ↦ let l = loaded.index_is.low p k off.1 in omega arith
    ];
    known = λ a k name low c. elim (k == n) as (λ b. (k == n) ≡ b → new (at_name a name) ≡ Some k) [
      | true ↦ λ here.
          let n_is = number_is k n here in
          let item_same : x ≡ c.placed = same c.placed (ap items (sym n_is) ∙ c.is) in
          let e : x.parent ≡ a = ap (λ (u : Placed). u.parent) item_same ∙ c.parent in
          let f : x.name ≡ Some name = ap (λ (u : Placed). u.name) item_same ∙ c.name in
          ap new (sym (same_place (place_of x) (at_name a name) e f)) ∙ hit (place_of x) (Some n) old new sets ∙ ap Some (sym n_is)
      | false ↦ λ off.
          let known = loaded.index_is.known a k name (same_or_below k n low off) c in
          past (place_of x) (Some n) old new (at_name a name) sets (λ e. none_some (sym free ∙ ap old e ∙ known)) ∙ known
    ] refl;
  };
}
  where
    same : (z : Placed) → items n ≡ Some z → x ≡ z
    same z is_z = let e : Some x ≡ Some z = sym is ∙ is_z in cc (e)

    child : (o : Option (List ℕ)) → x.name ≡ o → is_some o ≡ true → IsChildAt items x.parent o n
    child None e h = false_true h
    child (Some name) e h = record { placed = x; is = is; parent = refl; name = e; not_root = off_root n two }

-- ---- at the end

pub load_ends : LoadEnds
load_ends items n numbers loaded two above = (
  λ m. elim (nat_lt m n) as (λ b. nat_lt m n ≡ b → FollowsRules items m) [
    | true ↦ λ low. loaded.below m (grind (arith, nat_tests))
    | false ↦ λ high. let up : n ≤ m = grind (arith, nat_tests) in
        record { root = λ one. absurd (omega arith); placed = λ x is out. none_some (sym (above m up) ∙ is) }
  ] refl,
  record { told = loaded.index_is.told; known = λ a k name c. loaded.index_is.known a k name (in_range k c.placed c.is) c },
)
  where
    in_range : (k : ℕ) (x : Placed) → items k ≡ Some x → k < n
    in_range k x is = elim (nat_lt k n) as (λ b. nat_lt k n ≡ b → k < n) [
      | true ↦ λ low. grind (arith, nat_tests)
      | false ↦ λ high. let up : n ≤ k = grind (arith, nat_tests) in none_some (sym (above k up) ∙ is)
    ] refl
