-- What stands at a place, part by part.
use Rattle.std.proofs.Common.{◌≡◌, ℕ, zero, suc, ◌+◌, ◌*◌, ◌<◌, List, [], ◌∷◌, ◌++◌, length, drop, get_or, refl, sym, ◌∙◌, ap, subst, arith, append_assoc, append-nil, length-append}
use Rattle.std.proofs.lemmas.List.{drop_at, drop-drop}
use Rattle.std.proofs.lemmas.List.Concat.{flat_map-append, flat_map-cons}
use Rattle.tm_codec.specs.Fields.{u32_text, u64_text}
use Rattle.tm_codec.specs.Places.{IsTextAt}
use Rattle.tm_codec.proofs.Fields.{length-u32_text, length-u64_text}
use Rattle.tm_records.specs.declared.record.Record.{Record}
use Rattle.tm_table.specs.Text.{numbers, meta_text, record_text}

pub stands_both : (a b bytes : List ℕ) (at : ℕ) → IsTextAt a at bytes → IsTextAt b (at + length a) bytes → IsTextAt (a ++ b) at bytes
stands_both a b bytes at first second =
    first ∙ ap (λ r. a ++ r) second ∙ sym (append_assoc a b (drop (at + length a + length b) bytes)) ∙ ap (λ j. a ++ b ++ drop j bytes) (omega (arith, length-append a b))

-- a beginning with what follows
pub stands_from : (a tail bytes : List ℕ) (at : ℕ) → drop at bytes ≡ a ++ tail → IsTextAt a at bytes
stands_from a tail bytes at is = is ∙ ap (λ r. a ++ r) (sym (drop_at a tail (length a) refl) ∙ sym (ap (drop (length a)) is) ∙ drop-drop (length a) at bytes ∙ ap (λ j. drop j bytes) (omega arith))

pub stands_first : (a b bytes : List ℕ) (at : ℕ) → IsTextAt (a ++ b) at bytes → IsTextAt a at bytes
stands_first a b bytes at stands = stands_from a (b ++ drop (at + length (a ++ b)) bytes) bytes at (stands ∙ append_assoc a b (drop (at + length (a ++ b)) bytes))

pub stands_second : (a b bytes : List ℕ) (at : ℕ) → IsTextAt (a ++ b) at bytes → IsTextAt b (at + length a) bytes
stands_second a b bytes at stands =
    let all : drop at bytes ≡ a ++ (b ++ drop (at + length (a ++ b)) bytes) = stands ∙ append_assoc a b (drop (at + length (a ++ b)) bytes) in
    stands_from b (drop (at + length (a ++ b)) bytes) bytes (at + length a) (ap (λ j. drop j bytes) (omega arith) ∙ sym (drop-drop (length a) at bytes) ∙ ap (drop (length a)) all ∙ drop_at a (b ++ drop (at + length (a ++ b)) bytes) (length a) refl)

pub length-meta_text : (meta : List ℕ) → length (meta_text meta) ≡ 4 + length meta
unfolding meta_text
length-meta_text meta = omega (arith, length-append (u32_text (length meta)) meta, length-u32_text (length meta))

pub length-numbers : (blocks : List ℕ) → length (numbers blocks) ≡ 4 * length blocks
length-numbers [] = refl
length-numbers (b ∷ bs) = omega (arith, ap length (flat_map-cons u32_text b bs), length-append (u32_text b) (numbers bs), length-u32_text b, length-numbers bs)

pub length-record_text : (e : ℕ × Record) → length (record_text e) ≡ 20 + length e.1.meta + 4 * length e.1.blocks
unfolding record_text
length-record_text e =
    omega (arith, length-append (u64_text e.0 ++ meta_text e.1.meta ++ u64_text e.1.length) (numbers e.1.blocks), length-append (u64_text e.0 ++ meta_text e.1.meta) (u64_text e.1.length), length-append (u64_text e.0) (meta_text e.1.meta), length-u64_text e.0, length-meta_text e.1.meta, length-u64_text e.1.length, length-numbers e.1.blocks)

-- where the parts of a record stand
pub record Parts (e : ℕ × Record) (at : ℕ) (text : List ℕ) : Type 0 where
  pub key : IsTextAt (u64_text e.0) at text
  pub meta : IsTextAt (meta_text e.1.meta) (at + 8) text
  pub size : IsTextAt (u64_text e.1.length) (at + 12 + length e.1.meta) text
  pub blocks : IsTextAt (numbers e.1.blocks) (at + 12 + length e.1.meta + 8) text

module _ (e : ℕ × Record) (at : ℕ) (text : List ℕ) where
  after_key : at + length (u64_text e.0) ≡ at + 8
  after_key = omega (arith, length-u64_text e.0)

  after_meta : at + length (u64_text e.0 ++ meta_text e.1.meta) ≡ at + 12 + length e.1.meta
  after_meta = omega (arith, length-append (u64_text e.0) (meta_text e.1.meta), length-u64_text e.0, length-meta_text e.1.meta)

  after_size : at + length (u64_text e.0 ++ meta_text e.1.meta ++ u64_text e.1.length) ≡ at + 12 + length e.1.meta + 8
  after_size = omega (arith, after_meta, length-append (u64_text e.0 ++ meta_text e.1.meta) (u64_text e.1.length), length-u64_text e.1.length)

  pub parts : IsTextAt (record_text e) at text → Parts e at text
  unfolding record_text
  parts stands =
      let three = stands_first (u64_text e.0 ++ meta_text e.1.meta ++ u64_text e.1.length) (numbers e.1.blocks) text at stands in
      let two = stands_first (u64_text e.0 ++ meta_text e.1.meta) (u64_text e.1.length) text at three in
      record {
        key = stands_first (u64_text e.0) (meta_text e.1.meta) text at two;
        meta = subst (λ j. IsTextAt (meta_text e.1.meta) j text) after_key (stands_second (u64_text e.0) (meta_text e.1.meta) text at two);
        size = subst (λ j. IsTextAt (u64_text e.1.length) j text) after_meta (stands_second (u64_text e.0 ++ meta_text e.1.meta) (u64_text e.1.length) text at three);
        blocks = subst (λ j. IsTextAt (numbers e.1.blocks) j text) after_size (stands_second (u64_text e.0 ++ meta_text e.1.meta ++ u64_text e.1.length) (numbers e.1.blocks) text at stands);
      }

  pub whole : Parts e at text → IsTextAt (record_text e) at text
  unfolding record_text
  whole p =
      let two = stands_both (u64_text e.0) (meta_text e.1.meta) text at p.key (subst (λ j. IsTextAt (meta_text e.1.meta) j text) (sym after_key) p.meta) in
      let three = stands_both (u64_text e.0 ++ meta_text e.1.meta) (u64_text e.1.length) text at two (subst (λ j. IsTextAt (u64_text e.1.length) j text) (sym after_meta) p.size) in
      stands_both (u64_text e.0 ++ meta_text e.1.meta ++ u64_text e.1.length) (numbers e.1.blocks) text at three (subst (λ j. IsTextAt (numbers e.1.blocks) j text) (sym after_size) p.blocks)

-- block numbers
pub numbers-push : (bs : List ℕ) (b : ℕ) → numbers (bs ++ b ∷ []) ≡ numbers bs ++ u32_text b
numbers-push bs b = flat_map-append u32_text bs (b ∷ []) ∙ ap (λ t. numbers bs ++ t) (append-nil (u32_text b))

pub stands_push : (bs : List ℕ) (b at i : ℕ) (text : List ℕ) → length bs ≡ i → IsTextAt (numbers bs) at text → IsTextAt (u32_text b) (at + 4 * i) text → IsTextAt (numbers (bs ++ b ∷ [])) at text
stands_push bs b at i text len so_far one = subst (λ t. IsTextAt t at text) (sym (numbers-push bs b))
    (stands_both (numbers bs) (u32_text b) text at so_far (subst (λ j. IsTextAt (u32_text b) j text) (omega (arith, length-numbers bs)) one))

pub number_stands : (bs : List ℕ) (i at : ℕ) (text : List ℕ) → i < length bs → IsTextAt (numbers bs) at text → IsTextAt (u32_text (get_or bs i 0)) (at + 4 * i) text
number_stands [] i at text lt stands = absurd (omega arith)
number_stands (b ∷ bs) zero at text lt stands = subst (λ j. IsTextAt (u32_text b) j text) (omega arith) (stands_first (u32_text b) (numbers bs) text at (subst (λ t. IsTextAt t at text) (flat_map-cons u32_text b bs) stands))
number_stands (b ∷ bs) (suc i) at text lt stands =
    let rest = stands_second (u32_text b) (numbers bs) text at (subst (λ t. IsTextAt t at text) (flat_map-cons u32_text b bs) stands) in
    subst (λ j. IsTextAt (u32_text (get_or bs i 0)) j text) (omega (arith, length-u32_text b)) (number_stands bs i (at + length (u32_text b)) text (omega arith) rest)
