-- Records that are found, and the first key from another on.
use Rattle.std.proofs.Common.{◌≡◌, ⊎_elim, ℕ, ◌*◌, ◌<◌, ◌≤◌, [], ◌∷◌, length, get_or, Some, None, true, false, not, ◌&&◌, cond, refl, sym, ◌∙◌, ap, arith, nat_lt}
use Rattle.std.specs.List.{filter, find}
use Rattle.std.specs.Ordering.{nat_cmp, is_eq, is_le}
use Rattle.std.specs.Cmp.{nat_cmp_is}
use Rattle.std.specs.declared.cmp.Ordering.TheVariants.{Less, Equal, Greater}
use Rattle.std.specs.Map.{keys_of, values_of}
use Rattle.std.proofs.lemmas.Bool.{cases_lt, lt-ltb, le-ltb}
use Rattle.std.proofs.lemmas.List.Sums.{sum_by-cons}
use Rattle.tm_blockmap.specs.Counts.{times}
use Rattle.tm_blockmap.proofs.Counting.{within_map, stands}
use Rattle.tm_records.specs.declared.record.Record.{Record}
use Rattle.tm_records.specs.Records.{Records, at}
use Rattle.tm_image.specs.Content.{in_data}
use Rattle.tm_image.specs.Seen.{Seen, IsSound, IsKept}
use Rattle.tm_image.proofs.Keeping.{found}

-- the blocks of a record that is found are those of the data
found_le : (b k : ℕ) (es : Records) (r : Record) → at k es ≡ Some r → times b r.blocks ≤ in_data b es
found_le b k [] r is = cc
found_le b k (e ∷ es) r is =
    elim (is_eq (nat_cmp k e.0)) as (λ t. cond t (Some e.1) (at k es) ≡ Some r → times b r.blocks ≤ in_data b (e ∷ es)) [
      | true ↦ λ p. let same : e.1 ≡ r = cc in omega (arith, ap (λ (s : Record). times b s.blocks) same, sum_by-cons (λ (s : Record). times b s.blocks) e.1 (values_of es))
      | false ↦ λ p. omega (arith, found_le b k es r p, sum_by-cons (λ (s : Record). times b s.blocks) e.1 (values_of es))
    ] is

pub block_in : (m : Seen) → IsSound m → (key : ℕ) (r : Record) (k : ℕ) → at key m.records ≡ Some r → 4096 * k < r.length → get_or r.blocks k 0 < length m.used
block_in m sound key r k is below =
    let kept : IsKept r = found IsKept key m.records sound.each r is in
    let b : ℕ = get_or r.blocks k 0 in
    within_map m.used b (omega (arith, sound.owners b, found_le b key m.records r is, stands r.blocks k (omega (arith, kept.many, below))))

at_least : (least x : ℕ) → is_le (nat_cmp least x) ≡ not (nat_lt x least)
at_least least x = ⊎_elim
    (λ (lt : x < least). ap is_le (sym (nat_cmp_is least x Greater lt)) ∙ sym (ap not (lt-ltb x least lt)))
    (λ (le : least ≤ x). ⊎_elim
    (λ (lt : least < x). ap is_le (sym (nat_cmp_is least x Less lt)) ∙ sym (ap not (le-ltb x least le)))
    (λ (ge : x ≤ least). ap is_le (sym (nat_cmp_is least x Equal (omega arith))) ∙ sym (ap not (le-ltb x least le)))
    (cases_lt least x))
    (cases_lt x least)

abbrev pub from_on : ℕ → Records → Records
from_on least es = filter (λ e. is_le (nat_cmp least e.0) && not false) es

pub first_from : (least : ℕ) (es rest : Records) (e : ℕ × Record) → e ∷ rest ≡ from_on least es → Some e.0 ≡ find (λ k. not (nat_lt k least)) (keys_of es)
first_from least [] rest e is = cc
first_from least (d ∷ es) rest e is =
    elim (is_le (nat_cmp least d.0)) as (λ b. e ∷ rest ≡ cond (b && not false) (d ∷ from_on least es) (from_on least es) → Some e.0 ≡ cond b (Some d.0) (find (λ k. not (nat_lt k least)) (keys_of es))) [
      | true ↦ λ h. let same : e ≡ d = cc in ap (λ (x : ℕ × Record). Some x.0) same
      | false ↦ λ h. first_from least es rest e h
    ] is ∙ ap (λ b. cond b (Some d.0) (find (λ k. not (nat_lt k least)) (keys_of es))) (at_least least d.0)

pub none_from : (least : ℕ) (es : Records) → [] ≡ from_on least es → None ≡ find (λ k. not (nat_lt k least)) (keys_of es)
none_from least [] is = refl
none_from least (d ∷ es) is =
    elim (is_le (nat_cmp least d.0)) as (λ b. [] ≡ cond (b && not false) (d ∷ from_on least es) (from_on least es) → None ≡ cond b (Some d.0) (find (λ k. not (nat_lt k least)) (keys_of es))) [
      | true ↦ λ h. cc
      | false ↦ λ h. none_from least es h
    ] is ∙ ap (λ b. cond b (Some d.0) (find (λ k. not (nat_lt k least)) (keys_of es))) (at_least least d.0)
