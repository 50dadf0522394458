-- Numbers by folder and name, in a map of maps.
use Rattle.std.proofs.Common.{◌≡◌, ℕ, Bool, true, false, cond, List, [], ◌∷◌, refl, sym, ap, ◌∙◌, subst, Option, Some, None, IsSome}
use Rattle.std.proofs.lemmas.Map.Made.{lookup-map_values}
use Rattle.std.proofs.lemmas.Option.{same_Some}
use Rattle.std.specs.BTreeMap.{BTreeMap, is_at}
use Rattle.std.specs.Cmp.{tied_itself}
use Rattle.std.specs.Cmp.Lexicographic.{slice_cmp, nat_list_cmp_total}
use Rattle.std.specs.FinMap.{nat_cmp-IsAntisymmetric}
use Rattle.std.specs.Map.{lookup, set_value}
use Rattle.std.specs.Option.{option_map, option_cmp}
use Rattle.std.specs.Ordering.{nat_cmp, is_eq, ordering_then}
use Rattle.std.specs.declared.cmp.Ordering.{Ordering}
use Rattle.std.specs.declared.cmp.Ordering.TheVariants.{Less, Equal, Greater}
use Rattle.tm_base.specs.Paths.{name_cmp}
use Rattle.tm_items.specs.Index.{SetsAt}
use Rattle.tm_items.specs.Places.{at_name}
use Rattle.tm_index.specs.Folders.{NumbersByName, number_named, Folders, numbers_in, folders_of, SetsName}

abbrev pub Maps : Type 0
Maps = List (ℕ × BTreeMap (List ℕ) ℕ)

abbrev pub entries_in : Option (BTreeMap (List ℕ) ℕ) → Option NumbersByName
entries_in o = option_map (λ m. m.entries) o

abbrev pub map_at : ℕ → Maps → Option (BTreeMap (List ℕ) ℕ)
map_at k folders = lookup (is_at (nat_cmp k)) folders

-- the numbers of a folder are those of its map
named_at : (k : ℕ) (folders : Maps) → lookup (is_at (nat_cmp k)) (folders_of folders) ≡ entries_in (map_at k folders)
named_at k folders = lookup-map_values (λ (m : BTreeMap (List ℕ) ℕ). m.entries) (is_at (nat_cmp k)) folders

number_at : (folders : Maps) (k : ℕ) (name : List ℕ) (o : Option (BTreeMap (List ℕ) ℕ)) → map_at k folders ≡ o
    → numbers_in (folders_of folders) (at_name k name) ≡ number_named (entries_in o) (Some name)
number_at folders k name o is = ap (λ (x : Option NumbersByName). number_named x (Some name)) (named_at k folders ∙ ap (λ (x : Option (BTreeMap (List ℕ) ℕ)). entries_in x) is)

pub number_there : (folders : Maps) (seen : Folders) (k : ℕ) (name : List ℕ) (m : BTreeMap (List ℕ) ℕ) → folders_of folders ≡ seen → Some m ≡ map_at k folders
    → lookup (is_at (name_cmp name)) m.entries ≡ numbers_in seen (at_name k name)
number_there folders seen k name m view is = sym (number_at folders k name (Some m) (sym is)) ∙ ap (λ (f : Folders). numbers_in f (at_name k name)) view

pub number_nowhere : (folders : Maps) (seen : Folders) (k : ℕ) → folders_of folders ≡ seen → None ≡ map_at k folders
    → (name : List ℕ) → numbers_in seen (at_name k name) ≡ None
number_nowhere folders seen k view is name = sym (ap (λ (f : Folders). numbers_in f (at_name k name)) view) ∙ number_at folders k name None (sym is)

-- ---- a folder without numbers

none_in : (named : NumbersByName) → named ≡ [] → (name : List ℕ) → lookup (is_at (name_cmp name)) named ≡ None
none_in named is name = ap (λ (es : NumbersByName). lookup (is_at (name_cmp name)) es) is

pub empty_there : (folders : Maps) (seen : Folders) (k : ℕ) (m : BTreeMap (List ℕ) ℕ) → folders_of folders ≡ seen → Some m ≡ map_at k folders
    → m.entries ≡ [] → (name : List ℕ) → numbers_in seen (at_name k name) ≡ None
empty_there folders seen k m view is none name = sym (number_there folders seen k name m view is) ∙ none_in m.entries none name

first_in : (named : NumbersByName) → (named ≡ [] → ⊥) → (name : List ℕ) × IsSome (lookup (is_at (name_cmp name)) named)
first_in [] h = absurd (h refl)
first_in (e ∷ es) h = (e.0, subst (λ (b : Bool). IsSome (cond b (Some e.1) (lookup (is_at (name_cmp e.0)) es))) (sym (ap is_eq (tied_itself nat_list_cmp_total e.0))) refl)

pub some_there : (folders : Maps) (seen : Folders) (k : ℕ) (m : BTreeMap (List ℕ) ℕ) → folders_of folders ≡ seen → Some m ≡ map_at k folders
    → (m.entries ≡ [] → ⊥) → (name : List ℕ) × IsSome (numbers_in seen (at_name k name))
some_there folders seen k m view is some =
    let first = first_in m.entries some in
    (first.0, subst (λ (o : Option ℕ). IsSome o) (number_there folders seen k first.0 m view is) first.1)

-- ---- another number at one place

unnamed : (x : Option NumbersByName) → number_named x None ≡ None
unnamed None = refl
unnamed (Some named) = refl

apart : (c : Ordering) (o p : Option ℕ) → cond (is_eq (ordering_then c Greater)) o p ≡ p
apart Less o p = refl
apart Equal o p = refl
apart Greater o p = refl

set_named : (c d : Ordering) (o : Option ℕ) (x y : Option NumbersByName) (named : NumbersByName) (name : List ℕ) → y ≡ cond (is_eq c) (Some named) x
    → (c ≡ Equal → lookup (is_at (name_cmp name)) named ≡ cond (is_eq d) o (number_named x (Some name)))
    → number_named y (Some name) ≡ cond (is_eq (ordering_then c d)) o (number_named x (Some name))
set_named Less d o x y named name is sets = ap (λ (z : Option NumbersByName). number_named z (Some name)) is
set_named Equal d o x y named name is sets = ap (λ (z : Option NumbersByName). number_named z (Some name)) is ∙ sets refl
set_named Greater d o x y named name is sets = ap (λ (z : Option NumbersByName). number_named z (Some name)) is

abbrev pub MapIsSet : ℕ → BTreeMap (List ℕ) ℕ → Maps → Maps → Type 0
MapIsSet k m old new = (q : ℕ) → map_at q new ≡ cond (is_at (nat_cmp k) q) (Some m) (map_at q old)

mapped : (b : Bool) (m : BTreeMap (List ℕ) ℕ) (x : Option (BTreeMap (List ℕ) ℕ)) → entries_in (cond b (Some m) x) ≡ cond b (Some m.entries) (entries_in x)
mapped true m x = refl
mapped false m x = refl

set_seen : (k q : ℕ) (m : BTreeMap (List ℕ) ℕ) (old new : Maps) → MapIsSet k m old new
    → lookup (is_at (nat_cmp q)) (folders_of new) ≡ cond (is_at (nat_cmp k) q) (Some m.entries) (lookup (is_at (nat_cmp q)) (folders_of old))
set_seen k q m old new sets =
    named_at q new ∙ ap (λ (x : Option (BTreeMap (List ℕ) ℕ)). entries_in x) (sets q) ∙ mapped (is_at (nat_cmp k) q) m (map_at q old)
    ∙ ap (λ (x : Option NumbersByName). cond (is_at (nat_cmp k) q) (Some m.entries) x) (sym (named_at q old))

set_at : (k : ℕ) (name : List ℕ) (o : Option ℕ) (m : BTreeMap (List ℕ) ℕ) (old new : Maps) (q : ℕ) (called : Option (List ℕ))
    → SetsName name o (entries_in (map_at k old)) m.entries → MapIsSet k m old new
    → number_named (lookup (is_at (nat_cmp q)) (folders_of new)) called
    ≡ cond (is_eq (ordering_then (nat_cmp k q) (option_cmp (slice_cmp nat_cmp) (Some name) called))) o (number_named (lookup (is_at (nat_cmp q)) (folders_of old)) called)
set_at k name o m old new q None named sets =
    unnamed (lookup (is_at (nat_cmp q)) (folders_of new)) ∙ sym (unnamed (lookup (is_at (nat_cmp q)) (folders_of old)))
    ∙ sym (apart (nat_cmp k q) o (number_named (lookup (is_at (nat_cmp q)) (folders_of old)) None))
set_at k name o m old new q (Some called) named sets =
    set_named (nat_cmp k q) (name_cmp name called) o (lookup (is_at (nat_cmp q)) (folders_of old)) (lookup (is_at (nat_cmp q)) (folders_of new)) m.entries called
    (set_seen k q m old new sets)
    (λ same. named.at called ∙ ap (λ (x : Option NumbersByName). cond (is_at (name_cmp name) called) o (number_named x (Some called)))
    (ap (λ (j : ℕ). entries_in (map_at j old)) (nat_cmp-IsAntisymmetric k q same) ∙ sym (named_at q old)))

pub set_number : (k : ℕ) (name : List ℕ) (o : Option ℕ) (m : BTreeMap (List ℕ) ℕ) (old new : Maps)
    → SetsName name o (entries_in (map_at k old)) m.entries → MapIsSet k m old new
    → SetsAt (at_name k name) o (numbers_in (folders_of old)) (numbers_in (folders_of new))
set_number k name o m old new named sets = record { at = λ q. set_at k name o m old new q.parent q.name named sets }

pub set_in_map : (k : ℕ) (name : List ℕ) (o : Option ℕ) (m n : BTreeMap (List ℕ) ℕ) (old new : Maps) → Some m ≡ map_at k old
    → SetsName name o (Some m.entries) n.entries → (IsSome (map_at k old) → MapIsSet k n old new)
    → SetsAt (at_name k name) o (numbers_in (folders_of old)) (numbers_in (folders_of new))
set_in_map k name o m n old new is named sets =
    set_number k name o n old new
    (subst (λ (x : Option (BTreeMap (List ℕ) ℕ)). SetsName name o (entries_in x) n.entries) is named)
    (sets (subst (λ (x : Option (BTreeMap (List ℕ) ℕ)). IsSome x) is refl))

pub set_in_new : (k : ℕ) (name : List ℕ) (o : Option ℕ) (n : BTreeMap (List ℕ) ℕ) (old new : Maps) → None ≡ map_at k old
    → SetsName name o None n.entries → MapIsSet k n old new
    → SetsAt (at_name k name) o (numbers_in (folders_of old)) (numbers_in (folders_of new))
set_in_new k name o n old new is named sets =
    set_number k name o n old new (subst (λ (x : Option (BTreeMap (List ℕ) ℕ)). SetsName name o (entries_in x) n.entries) is named) sets

-- where the folder is as before, so is all
pub set_same : (test : ℕ → Bool) (folders : Maps) (m n : BTreeMap (List ℕ) ℕ) → lookup test folders ≡ Some m → n.entries ≡ m.entries
    → folders_of (set_value test folders n) ≡ folders_of folders
set_same test [] m n is same = refl
set_same test (e ∷ es) m n is same =
    elim (test e.0) as (λ b. cond b (Some e.1) (lookup test es) ≡ Some m → folders_of (cond b ((e.0, n) ∷ es) (e ∷ set_value test es n)) ≡ folders_of (e ∷ es)) [
      | true ↦ λ here. ap (λ (named : NumbersByName). (e.0, named) ∷ folders_of es) (same ∙ ap (λ (x : BTreeMap (List ℕ) ℕ). x.entries) (sym (same_Some e.1 m here)))
      | false ↦ λ past. ap (λ (rest : Folders). (e.0, e.1.entries) ∷ rest) (set_same test es m n past same)
    ] is

-- a number is taken out, where nothing stands
pub set_nowhere : (k : ℕ) (name : List ℕ) (old new : Maps) → None ≡ map_at k old → new ≡ old
    → SetsAt (at_name k name) None (numbers_in (folders_of old)) (numbers_in (folders_of new))
set_nowhere k name old new none same = record {
  at = λ q. ap (λ (f : Maps). numbers_in (folders_of f) q) same ∙ stays k name old none q.parent q.name;
}
  where
    there : (c d : Ordering) (x : Option NumbersByName) (called : List ℕ) → (c ≡ Equal → x ≡ None)
        → number_named x (Some called) ≡ cond (is_eq (ordering_then c d)) None (number_named x (Some called))
    there Less d x called h = refl
    there Equal Less x called h = refl
    there Equal Equal x called h = ap (λ (z : Option NumbersByName). number_named z (Some called)) (h refl)
    there Equal Greater x called h = refl
    there Greater d x called h = refl

    stays : (k : ℕ) (name : List ℕ) (old : Maps) → None ≡ map_at k old → (q : ℕ) (called : Option (List ℕ))
        → number_named (lookup (is_at (nat_cmp q)) (folders_of old)) called
        ≡ cond (is_eq (ordering_then (nat_cmp k q) (option_cmp (slice_cmp nat_cmp) (Some name) called))) None (number_named (lookup (is_at (nat_cmp q)) (folders_of old)) called)
    stays k name old none q None = sym (apart (nat_cmp k q) None (number_named (lookup (is_at (nat_cmp q)) (folders_of old)) None))
    stays k name old none q (Some called) =
        there (nat_cmp k q) (name_cmp name called) (lookup (is_at (nat_cmp q)) (folders_of old)) called
        (λ same. named_at q old ∙ ap (λ (j : ℕ). entries_in (map_at j old)) (sym (nat_cmp-IsAntisymmetric k q same)) ∙ ap (λ (x : Option (BTreeMap (List ℕ) ℕ)). entries_in x) (sym none))
