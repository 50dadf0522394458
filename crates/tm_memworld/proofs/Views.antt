-- A list of sites, seen as what stands at each place.
use Rattle.std.proofs.Common.{◌≡◌, ◌≢◌, ⊎_elim, ℕ, zero, suc, ◌<◌, ◌≤◌, Bool, true, false, cond, List, [], ◌∷◌, ◌++◌, length, set, Option, Some, None, refl, sym, ◌∙◌, ap, subst, arith}
use Rattle.std.proofs.lemmas.Bool.{cond-true, cond-false, cases_Bool, cases_eq, cases_lt}
use Rattle.std.proofs.lemmas.List.{get_or-set_same, get_or-set_other, length-set, get_or_append_left, length-append, get_or_at}
use Rattle.std.proofs.lemmas.Slice.Eq.{bytes_eq-Decides}
use Rattle.std.specs.Option.{option_map}
use Rattle.std.specs.Str.{bytes_eq}
use Rattle.tm_base.specs.Limits.{max_blocks}
use Rattle.tm_world.specs.Disk.{nothing}
use Rattle.tm_world.specs.Outside.{Place, is_place, place, disk, put_at, put_disk}
use Rattle.tm_world.specs.declared.world.Side.{Side}
use Rattle.tm_world.specs.declared.world.Side.TheVariants.{Volume, Store}
use Rattle.tm_world.proofs.Sides.{is_place-same, is_place-true}
use Rattle.tm_memworld.specs.Site.{SiteView, blank, disk_of, IsBy}
use Rattle.tm_memworld.specs.Sites.{stands_in, room_at, site_at, path_at, IsFirst, IsNowhere, AreSmall, AreBy}
use Rattle.tm_memworld.specs.Contents.{Contents, view, attached_at}

first_rest : (s : SiteView) (sites : List SiteView) (i : ℕ) → IsFirst (s ∷ sites) (suc i) → IsFirst sites i
first_rest s sites i first = record { within = omega (arith, first.within); others = λ k lt. first.others (suc k) (omega arith) }

-- what stands at the path of a site that is the first of its path
pub stands_at : (sites : List SiteView) (i : ℕ) → IsFirst sites i → stands_in sites (Some (path_at sites i)) ≡ disk_of (site_at sites i)
stands_at [] i first = absurd (omega (arith, first.within))
stands_at (s ∷ sites) zero first = cond-true _ (disk_of s) _ (is_place-same (Some s.path))
stands_at (s ∷ sites) (suc i) first = cond-false _ (disk_of s) _ (first.others 0 (omega arith)) ∙ stands_at sites i (first_rest s sites i first)

cond_same : {X : Type 0} (b : Bool) (d e f : X) → cond b d f ≡ cond b d (cond b e f)
cond_same true d e f = refl
cond_same false d e f = refl

-- two tests that do not both hold
cond_swap : {X : Type 0} (b c : Bool) (d e f : X) → (b ≡ true → c ≡ true → ⊥) → cond b e (cond c d f) ≡ cond c d (cond b e f)
cond_swap true true d e f h = absurd (h refl refl)
cond_swap true false d e f h = refl
cond_swap false c d e f h = refl

apart_from : (p q : List ℕ) (at : Place) → is_place (Some p) (Some q) ≡ false → is_place (Some p) at ≡ true → is_place (Some q) at ≡ true → ⊥
apart_from p q at differ one two =
    let first : Some p ≡ at = is_place-true (Some p) at one in
    let second : Some q ≡ at = is_place-true (Some q) at two in
    let same : is_place (Some p) (Some q) ≡ true = subst (λ r. is_place (Some p) r ≡ true) (first ∙ sym second) (is_place-same (Some p)) in
    cc

-- another site of the same path in the place of one
pub stands-set : (sites : List SiteView) (i : ℕ) (t : SiteView) (at : Place) → IsFirst sites i → t.path ≡ path_at sites i
    → stands_in (set sites i t) at ≡ cond (is_place (Some (path_at sites i)) at) (disk_of t) (stands_in sites at)
stands-set [] i t at first same = absurd (omega (arith, first.within))
stands-set (s ∷ sites) zero t at first same =
    ap (λ p. cond (is_place (Some p) at) (disk_of t) (stands_in sites at)) same ∙ cond_same (is_place (Some s.path) at) (disk_of t) (disk_of s) (stands_in sites at)
stands-set (s ∷ sites) (suc i) t at first same =
    ap (cond (is_place (Some s.path) at) (disk_of s)) (stands-set sites i t at (first_rest s sites i first) same)
    ∙ cond_swap (is_place (Some s.path) at) (is_place (Some (path_at sites i)) at) (disk_of t) (disk_of s) (stands_in sites at) (apart_from s.path (path_at sites i) at (first.others 0 (omega arith)))

pub path-set : (sites : List SiteView) (i : ℕ) (t : SiteView) (k : ℕ) → i < length sites → t.path ≡ path_at sites i → path_at (set sites i t) k ≡ path_at sites k
path-set sites i t k lt same = ⊎_elim
    (λ (here : k ≡ i). ap (λ j. path_at (set sites i t) j) here ∙ ap (λ (s : SiteView). s.path) (get_or-set_same sites i t (blank [] 0) lt) ∙ same ∙ ap (path_at sites) (sym here))
    (λ (ne : k ≢ i). ap (λ (s : SiteView). s.path) (get_or-set_other sites i k t (blank [] 0) ne))
    (cases_eq k i)

pub places-set : (sites : List SiteView) (i : ℕ) (t : SiteView) (at : Option ℕ) → i < length sites → t.path ≡ path_at sites i → option_map (path_at (set sites i t)) at ≡ option_map (path_at sites) at
places-set sites i t None lt same = refl
places-set sites i t (Some k) lt same = ap Some (path-set sites i t k lt same)

-- another site in its place, and what is outside then
pub view-set : (c : Contents) (i : ℕ) (t : SiteView) → IsFirst c.sites i → t.path ≡ path_at c.sites i
    → view (record c { sites = set c.sites i t }) ≡ put_at (Some (path_at c.sites i)) (disk_of t) (view c)
view-set c i t first same = λ j. record {
  stands = λ at. stands-set c.sites i t at first same j;
  scripts = (view c).scripts;
  volume = places-set c.sites i t c.volume first.within same j;
  store = places-set c.sites i t c.store first.within same j;
  unread = (view c).unread;
  said = c.said;
}

pub place-view : (side : Side) (c : Contents) → place side (view c) ≡ option_map (path_at c.sites) (attached_at side c)
place-view Volume c = refl
place-view Store c = refl

-- the disk of a side
pub disk-view : (side : Side) (c : Contents) (i : ℕ) → attached_at side c ≡ Some i → IsFirst c.sites i → disk side (view c) ≡ disk_of (site_at c.sites i)
unfolding disk
disk-view side c i at first = ap (λ p. stands_in c.sites p) (place-view side c ∙ ap (option_map (path_at c.sites)) at) ∙ stands_at c.sites i first

stands_none : (sites : List SiteView) → stands_in sites None ≡ nothing
stands_none [] = refl
stands_none (s ∷ sites) = stands_none sites

pub disk-view_none : (side : Side) (c : Contents) → attached_at side c ≡ None → disk side (view c) ≡ nothing
unfolding disk
disk-view_none side c at = ap (λ p. stands_in c.sites p) (place-view side c ∙ ap (option_map (path_at c.sites)) at) ∙ stands_none c.sites

-- another site in the place of the one that a side is attached at
pub view-set_disk : (side : Side) (c : Contents) (i : ℕ) (t : SiteView) → attached_at side c ≡ Some i → IsFirst c.sites i → t.path ≡ path_at c.sites i
    → view (record c { sites = set c.sites i t }) ≡ put_disk side (disk_of t) (view c)
unfolding put_disk
view-set_disk side c i t at first same = view-set c i t first same ∙ ap (λ p. put_at p (disk_of t) (view c)) (sym (place-view side c ∙ ap (option_map (path_at c.sites)) at))

-- a site stays the first of its path
pub first-set : (sites : List SiteView) (i k : ℕ) (t : SiteView) → i < length sites → t.path ≡ path_at sites i → IsFirst sites k → IsFirst (set sites i t) k
first-set sites i k t lt same first = record {
  within = omega (arith, first.within, length-set sites i t);
  others = λ m below. subst (λ p. is_place (Some p) (Some (path_at (set sites i t) k)) ≡ false) (sym (path-set sites i t m lt same))
      (subst (λ p. is_place (Some (path_at sites m)) (Some p) ≡ false) (sym (path-set sites i t k lt same)) (first.others m below));
}

pub small-set : (sites : List SiteView) (i : ℕ) (t : SiteView) → AreSmall sites → IsFirst sites i → t.path ≡ path_at sites i → (disk_of t).count ≤ max_blocks → AreSmall (set sites i t)
small-set sites i t small first same le = record {
  each = λ at. subst (λ d. d.count ≤ max_blocks) (sym (stands-set sites i t at first same)) (⊎_elim
      (λ (here : is_place (Some (path_at sites i)) at ≡ true). subst (λ d. d.count ≤ max_blocks) (sym (cond-true _ (disk_of t) (stands_in sites at) here)) le)
      (λ (not : is_place (Some (path_at sites i)) at ≡ false). subst (λ d. d.count ≤ max_blocks) (sym (cond-false _ (disk_of t) (stands_in sites at) not)) (small.each at))
      (cases_Bool (is_place (Some (path_at sites i)) at)));
}

pub by_later : (time later : ℕ) (s : SiteView) → time ≤ later → IsBy time s → IsBy later s
by_later time later s le by = record { settled = omega (arith, by.settled); written = λ b. omega (arith, by.written b) }

pub by-set : (sites : List SiteView) (i : ℕ) (t : SiteView) (time later : ℕ) → i < length sites → AreBy time sites → time ≤ later → IsBy later t → AreBy later (set sites i t)
by-set sites i t time later lt by le new = record {
  each = λ k. ⊎_elim
      (λ (here : k ≡ i). subst (IsBy later) (sym (ap (λ j. site_at (set sites i t) j) here ∙ get_or-set_same sites i t (blank [] 0) lt)) new)
      (λ (ne : k ≢ i). subst (IsBy later) (sym (get_or-set_other sites i k t (blank [] 0) ne)) (by_later time later _ le (by.each k)))
      (cases_eq k i);
}

pub by_all : (sites : List SiteView) (time later : ℕ) → AreBy time sites → time ≤ later → AreBy later sites
by_all sites time later by le = record { each = λ k. by_later time later _ le (by.each k) }

-- the memory at each path, after another site took the place of one
pub room-set : (sites : List SiteView) (i : ℕ) (t : SiteView) (path : List ℕ) → IsFirst sites i → t.path ≡ path_at sites i
    → room_at (set sites i t) path ≡ cond (bytes_eq (path_at sites i) path) (length t.blocks) (room_at sites path)
room-set [] i t path first same = absurd (omega (arith, first.within))
room-set (s ∷ sites) zero t path first same =
    ap (λ p. cond (bytes_eq p path) (length t.blocks) (room_at sites path)) same ∙ cond_same (bytes_eq s.path path) (length t.blocks) (length s.blocks) (room_at sites path)
room-set (s ∷ sites) (suc i) t path first same =
    ap (cond (bytes_eq s.path path) (length s.blocks)) (room-set sites i t path (first_rest s sites i first) same)
    ∙ cond_swap (bytes_eq s.path path) (bytes_eq (path_at sites i) path) (length t.blocks) (length s.blocks) (room_at sites path) (apart_from s.path (path_at sites i) (Some path) (first.others 0 (omega arith)))

pub room_here : (sites : List SiteView) (i : ℕ) → IsFirst sites i → room_at sites (path_at sites i) ≡ length (site_at sites i).blocks
room_here [] i first = absurd (omega (arith, first.within))
room_here (s ∷ sites) zero first = cond-true _ (length s.blocks) _ (is_place-same (Some s.path))
room_here (s ∷ sites) (suc i) first = cond-false _ (length s.blocks) _ (first.others 0 (omega arith)) ∙ room_here sites i (first_rest s sites i first)

-- a site whose memory is as large as before leaves the memory at each path
pub room-set_same : (sites : List SiteView) (i : ℕ) (t : SiteView) (path : List ℕ) → IsFirst sites i → t.path ≡ path_at sites i → length t.blocks ≡ length (site_at sites i).blocks
    → room_at (set sites i t) path ≡ room_at sites path
room-set_same sites i t path first same long = room-set sites i t path first same ∙ ⊎_elim
    (λ (here : bytes_eq (path_at sites i) path ≡ true). cond-true _ (length t.blocks) (room_at sites path) here ∙ long ∙ sym (room_here sites i first)
    ∙ ap (room_at sites) ((bytes_eq-Decides (path_at sites i) path).0 here))
    (λ (not : bytes_eq (path_at sites i) path ≡ false). cond-false _ (length t.blocks) (room_at sites path) not)
    (cases_Bool (bytes_eq (path_at sites i) path))

nowhere_rest : (s : SiteView) (sites : List SiteView) (p : List ℕ) → IsNowhere (s ∷ sites) p → IsNowhere sites p
nowhere_rest s sites p nowhere = record { each = λ k lt. nowhere.each (suc k) (omega arith) }

-- a site of another path behind the others
pub stands-push : (sites : List SiteView) (t : SiteView) (at : Place) → IsNowhere sites t.path → stands_in (sites ++ t ∷ []) at ≡ cond (is_place (Some t.path) at) (disk_of t) (stands_in sites at)
stands-push [] t at nowhere = refl
stands-push (s ∷ sites) t at nowhere =
    ap (cond (is_place (Some s.path) at) (disk_of s)) (stands-push sites t at (nowhere_rest s sites t.path nowhere))
    ∙ cond_swap (is_place (Some s.path) at) (is_place (Some t.path) at) (disk_of t) (disk_of s) (stands_in sites at) (apart_from s.path t.path at (nowhere.each 0 (omega arith)))

pub room-push : (sites : List SiteView) (t : SiteView) (path : List ℕ) → IsNowhere sites t.path → room_at (sites ++ t ∷ []) path ≡ cond (bytes_eq t.path path) (length t.blocks) (room_at sites path)
room-push [] t path nowhere = refl
room-push (s ∷ sites) t path nowhere =
    ap (cond (bytes_eq s.path path) (length s.blocks)) (room-push sites t path (nowhere_rest s sites t.path nowhere))
    ∙ cond_swap (bytes_eq s.path path) (bytes_eq t.path path) (length t.blocks) (length s.blocks) (room_at sites path) (apart_from s.path t.path (Some path) (nowhere.each 0 (omega arith)))

path-push : (sites : List SiteView) (t : SiteView) (k : ℕ) → k < length sites → path_at (sites ++ t ∷ []) k ≡ path_at sites k
path-push sites t k lt = ap (λ (s : SiteView). s.path) (get_or_append_left sites (t ∷ []) (blank [] 0) k lt)

pub places-push : (sites : List SiteView) (t : SiteView) (at : Option ℕ) → ((k : ℕ) → at ≡ Some k → IsFirst sites k) → option_map (path_at (sites ++ t ∷ [])) at ≡ option_map (path_at sites) at
places-push sites t None firsts = refl
places-push sites t (Some k) firsts = let first : IsFirst sites k = firsts k refl in ap Some (path-push sites t k first.within)

pub first-push : (sites : List SiteView) (t : SiteView) (k : ℕ) → IsFirst sites k → IsFirst (sites ++ t ∷ []) k
first-push sites t k first = record {
  within = omega (arith, first.within, length-append sites (t ∷ []));
  others = λ m below. subst (λ p. is_place (Some p) (Some (path_at (sites ++ t ∷ []) k)) ≡ false) (sym (path-push sites t m (omega (arith, first.within))))
      (subst (λ p. is_place (Some (path_at sites m)) (Some p) ≡ false) (sym (path-push sites t k first.within)) (first.others m below));
}

last_is : (sites : List SiteView) (t : SiteView) → site_at (sites ++ t ∷ []) (length sites) ≡ t
last_is sites t = get_or_at sites t [] (blank [] 0) (length sites) refl

-- the new site is the first of its path
pub first_last : (sites : List SiteView) (t : SiteView) → IsNowhere sites t.path → IsFirst (sites ++ t ∷ []) (length sites)
first_last sites t nowhere = record {
  within = omega (arith, length-append sites (t ∷ []));
  others = λ m below. subst (λ p. is_place (Some p) (Some (path_at (sites ++ t ∷ []) (length sites))) ≡ false) (sym (path-push sites t m below))
      (subst (λ p. is_place (Some (path_at sites m)) (Some p) ≡ false) (sym (ap (λ (s : SiteView). s.path) (last_is sites t))) (nowhere.each m below));
}

pub path_last : (sites : List SiteView) (t : SiteView) → path_at (sites ++ t ∷ []) (length sites) ≡ t.path
path_last sites t = ap (λ (s : SiteView). s.path) (last_is sites t)

pub view-push : (c : Contents) (t : SiteView) → ((k : ℕ) → c.volume ≡ Some k → IsFirst c.sites k) → ((k : ℕ) → c.store ≡ Some k → IsFirst c.sites k) → IsNowhere c.sites t.path
    → view (record c { sites = c.sites ++ t ∷ [] }) ≡ put_at (Some t.path) (disk_of t) (view c)
view-push c t volume_first store_first nowhere = λ j. record {
  stands = λ at. stands-push c.sites t at nowhere j;
  scripts = (view c).scripts;
  volume = places-push c.sites t c.volume volume_first j;
  store = places-push c.sites t c.store store_first j;
  unread = (view c).unread;
  said = c.said;
}

pub small-push : (sites : List SiteView) (t : SiteView) → AreSmall sites → IsNowhere sites t.path → (disk_of t).count ≤ max_blocks → AreSmall (sites ++ t ∷ [])
small-push sites t small nowhere le = record {
  each = λ at. subst (λ d. d.count ≤ max_blocks) (sym (stands-push sites t at nowhere)) (⊎_elim
      (λ (here : is_place (Some t.path) at ≡ true). subst (λ d. d.count ≤ max_blocks) (sym (cond-true _ (disk_of t) (stands_in sites at) here)) le)
      (λ (not : is_place (Some t.path) at ≡ false). subst (λ d. d.count ≤ max_blocks) (sym (cond-false _ (disk_of t) (stands_in sites at) not)) (small.each at))
      (cases_Bool (is_place (Some t.path) at)));
}

blank_by : (time : ℕ) → IsBy time (blank [] 0)
blank_by time = record { settled = omega arith; written = λ b. omega arith }

pub by-push : (sites : List SiteView) (t : SiteView) (time : ℕ) → AreBy time sites → IsBy time t → AreBy time (sites ++ t ∷ [])
by-push [] t time by new = record { each = elim [ zero ↦ new | suc i ↦ blank_by time ] }
by-push (s ∷ sites) t time by new =
    let rest = by-push sites t time (record { each = λ k. by.each (suc k) }) new in
    record { each = elim [ zero ↦ by.each 0 | suc i ↦ rest.each i ] }

-- where no site has a path nothing stands, and there is no memory
pub stands_nowhere : (sites : List SiteView) (p : List ℕ) → IsNowhere sites p → stands_in sites (Some p) ≡ nothing
stands_nowhere [] p nowhere = refl
stands_nowhere (s ∷ sites) p nowhere = cond-false _ (disk_of s) _ (nowhere.each 0 (omega arith)) ∙ stands_nowhere sites p (nowhere_rest s sites p nowhere)

pub room_nowhere : (sites : List SiteView) (p : List ℕ) → IsNowhere sites p → room_at sites p ≡ 0
room_nowhere [] p nowhere = refl
room_nowhere (s ∷ sites) p nowhere = cond-false _ (length s.blocks) _ (nowhere.each 0 (omega arith)) ∙ room_nowhere sites p (nowhere_rest s sites p nowhere)

-- two sites that are the first of one path are one site
pub first_once : (sites : List SiteView) (i k : ℕ) → IsFirst sites i → IsFirst sites k → path_at sites i ≡ path_at sites k → i ≡ k
first_once sites i k one two same =
    let here : is_place (Some (path_at sites i)) (Some (path_at sites k)) ≡ true = subst (λ p. is_place (Some (path_at sites i)) (Some p) ≡ true) same (is_place-same (Some (path_at sites i))) in
    let back : is_place (Some (path_at sites k)) (Some (path_at sites i)) ≡ true = subst (λ p. is_place (Some (path_at sites k)) (Some p) ≡ true) (sym same) (is_place-same (Some (path_at sites k))) in
    ⊎_elim
    (λ (below : i < k). let differ : is_place (Some (path_at sites i)) (Some (path_at sites k)) ≡ false = two.others i below in cc)
    (λ (le : k ≤ i). ⊎_elim
    (λ (above : k < i). let differ : is_place (Some (path_at sites k)) (Some (path_at sites i)) ≡ false = one.others k above in cc)
    (λ (ge : i ≤ k). omega arith)
    (cases_lt k i))
    (cases_lt i k)

-- a path that is noted without memory for an image
pub room-named : (sites : List SiteView) (t : SiteView) (path : List ℕ) → IsNowhere sites t.path → length t.blocks ≡ 0 → room_at (sites ++ t ∷ []) path ≡ room_at sites path
room-named sites t path nowhere none = room-push sites t path nowhere ∙ ⊎_elim
    (λ (here : bytes_eq t.path path ≡ true). cond-true _ (length t.blocks) (room_at sites path) here ∙ none ∙ sym (room_nowhere sites t.path nowhere) ∙ ap (room_at sites) ((bytes_eq-Decides t.path path).0 here))
    (λ (not : bytes_eq t.path path ≡ false). cond-false _ (length t.blocks) (room_at sites path) not)
    (cases_Bool (bytes_eq t.path path))
