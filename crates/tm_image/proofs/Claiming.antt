-- One block more is claimed.
use Rattle.std.proofs.Common.{◌≡◌, ℕ, ◌+◌, ◌<◌, List, [], ◌∷◌, ◌++◌, length, get_or, take, refl, sym, ◌∙◌, ap, subst, arith, length-append, append_assoc}
use Rattle.std.specs.List.{All, flat_map}
use Rattle.std.specs.Map.{values_of}
use Rattle.std.proofs.Math.ListN.{set}
use Rattle.std.proofs.Math.Seq.{take-append-add, get_or-append_seam}
use Rattle.std.proofs.lemmas.List.{length-set, take-append-le, get_or-append-add, get_or_append_left}
use Rattle.std.proofs.lemmas.List.Sums.{sum_by-cons}
use Rattle.std.proofs.lemmas.List.Concat.{flat_map-cons}
use Rattle.tm_blockmap.specs.Marks.{AreMarks}
use Rattle.tm_blockmap.specs.Counts.{times}
use Rattle.tm_blockmap.proofs.Counting.{take_mark, take_marks, times-more, times-append}
use Rattle.tm_records.specs.declared.record.Record.{Record}
use Rattle.tm_records.specs.Records.{Records}
use Rattle.tm_image.specs.Content.{in_data}
use Rattle.tm_image.specs.Claim.{IsRefused}
use Rattle.tm_image.proofs.Owning.{data_list, times-data}

module _ (blocks old mid : List ℕ) (i : ℕ) (lt : i < length blocks) (so_far : (b : ℕ) → get_or mid b 0 ≡ get_or old b 0 + times b (take i blocks)) (marks : AreMarks mid) where
  pub one_more : (new : List ℕ) → get_or blocks i 0 < length mid → get_or mid (get_or blocks i 0) 0 ≡ 0 → new ≡ set mid (get_or blocks i 0) 1
      → ((b : ℕ) → get_or new b 0 ≡ get_or old b 0 + times b (take (i + 1) blocks)) × (length new ≡ length mid) × AreMarks new
  one_more new within free is = (
    λ b. omega (arith, ap (λ ms. get_or ms b 0) is, take_mark mid (get_or blocks i 0) within free b, times-more blocks i b lt, so_far b),
    ap length is ∙ length-set mid (get_or blocks i 0) 1,
    subst AreMarks (sym is) (take_marks mid (get_or blocks i 0) marks within),
  )

  pub refused : 0 < get_or mid (get_or blocks i 0) 0 → IsRefused blocks old (get_or blocks i 0)
  refused used = record {
    place = i;
    within = lt;
    is = refl;
    again = omega (arith, used, so_far (get_or blocks i 0));
    first = λ b. omega (arith, marks b, so_far b);
  }

-- the data of a list of records, block by block
abbrev pub flat : Records → List ℕ
flat es = flat_map (λ (r : Record). r.blocks) (values_of es)

pub times-flat : (b : ℕ) (es : Records) → times b (flat es) ≡ in_data b es
unfolding data_list
times-flat b es = times-data b es

pub in_data_push : (b : ℕ) (es : Records) (e : ℕ × Record) → in_data b (es ++ e ∷ []) ≡ in_data b es + times b e.1.blocks
in_data_push b [] e = omega (arith, sum_by-cons (λ (r : Record). times b r.blocks) e.1 [])
in_data_push b (d ∷ es) e = omega (arith, in_data_push b es e, sum_by-cons (λ (r : Record). times b r.blocks) d.1 (values_of (es ++ e ∷ [])), sum_by-cons (λ (r : Record). times b r.blocks) d.1 (values_of es))

flat-append : (es rest : Records) (e : ℕ × Record) → flat (es ++ e ∷ rest) ≡ flat es ++ (e.1.blocks ++ flat rest)
flat-append [] rest e = flat_map-cons (λ (r : Record). r.blocks) e.1 (values_of rest)
flat-append (d ∷ es) rest e = flat_map-cons (λ (r : Record). r.blocks) d.1 (values_of (es ++ e ∷ rest)) ∙ ap (λ t. d.1.blocks ++ t) (flat-append es rest e) ∙ sym (append_assoc d.1.blocks (flat es) (e.1.blocks ++ flat rest))
    ∙ ap (λ t. t ++ (e.1.blocks ++ flat rest)) (sym (flat_map-cons (λ (r : Record). r.blocks) d.1 (values_of es)))

-- refused within one part of a list is refused in the list
pub refused_in : (front part rest all old mid : List ℕ) (block : ℕ) → all ≡ front ++ (part ++ rest) → ((b : ℕ) → get_or mid b 0 ≡ get_or old b 0 + times b front) → IsRefused part mid block → IsRefused all old block
refused_in front part rest all old mid block is so_far refused =
    let p : ℕ = refused.place in
    let here : take (length front + p) all ≡ front ++ take p part = ap (take (length front + p)) is ∙ take-append-add front (part ++ rest) p ∙ ap (λ t. front ++ t) (take-append-le p part rest (omega (arith, refused.within))) in
    record {
      place = length front + p;
      within = omega (arith, refused.within, ap length is, length-append front (part ++ rest), length-append part rest);
      is = ap (λ (xs : List ℕ). get_or xs (length front + p) 0) is ∙ get_or-append-add front (part ++ rest) p 0 ∙ get_or_append_left part rest 0 p refused.within ∙ refused.is;
      again = omega (arith, refused.again, so_far block, ap (times block) here, times-append block front (take p part));
      first = λ b. omega (arith, refused.first b, so_far b, ap (times b) here, times-append b front (take p part));
    }

pub refused_record : (es rest all : Records) (e : ℕ × Record) (old mid : List ℕ) (block : ℕ) → all ≡ es ++ e ∷ rest → ((b : ℕ) → get_or mid b 0 ≡ get_or old b 0 + in_data b es) → IsRefused e.1.blocks mid block → IsRefused (flat all) old block
refused_record es rest all e old mid block is so_far refused = refused_in (flat es) e.1.blocks (flat rest) (flat all) old mid block (ap flat is ∙ flat-append es rest e) (λ b. omega (arith, so_far b, times-flat b es)) refused

pub all_mid : (P : ℕ × Record → Type 0) (front rest all : Records) (e : ℕ × Record) → all ≡ front ++ e ∷ rest → All P all → P e
all_mid P front rest all e is holds =
    let here : get_or all (length front) e ≡ e = ap (λ (es : Records). get_or es (length front) e) is ∙ get_or-append_seam front e rest e in
    subst P here (holds (length front) e (omega (arith, ap length is, length-append front (e ∷ rest))))
