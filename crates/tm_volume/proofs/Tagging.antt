-- The bytes of a tag, laid one after another over zeros.
use Rattle.std.proofs.Common.{◌≡◌, ℕ, ◌==◌, ◌^◌, ◌<◌, ◌≤◌, Bool, cond, get_or, List, [], ◌∷◌, ◌++◌, replicate, refl, sym, ap, subst, ◌∙◌, arith}
use Rattle.std.proofs.lemmas.Bool.Decides.{nat_tests}
use Rattle.tm_codec.specs.Places.{IsTextAt}
use Rattle.tm_gate.specs.Tag.{IsVolumeTag}
use Rattle.tm_volume_records.specs.Rules.{IsTagged}
use borrow.Rule.Slice.PartMut.{put_mid}
use Rattle.tm_codec.specs.Fields.{u64_text}
use Rattle.tm_gate.specs.Tag.{volume_tag}

laid : (clean generation next : ℕ) → put_mid 16 8 (put_mid 8 8 ((clean ∷ []) ++ replicate 63 0) (u64_text generation)) (u64_text next) ≡ volume_tag clean generation next
unfolding u64_text
laid clean generation next = refl

pub tag_laid : (clean generation next : ℕ) (x g n : List ℕ) → x ≡ clean ∷ [] → g ≡ u64_text generation → n ≡ u64_text next
    → put_mid 16 8 (put_mid 8 8 (x ++ replicate 63 0) g) n ≡ volume_tag clean generation next
tag_laid clean generation next x g n ex eg en = (λ i. put_mid 16 8 (put_mid 8 8 (ex i ++ replicate 63 0) (eg i)) (en i)) ∙ laid clean generation next

-- ---- reading

generation_at : (c g n : ℕ) → IsTextAt (u64_text g) 8 (volume_tag c g n)
unfolding u64_text
generation_at c g n = refl

next_at : (c g n : ℕ) → IsTextAt (u64_text n) 16 (volume_tag c g n)
unfolding u64_text
next_at c g n = refl

pub reads_generation : (tag : List ℕ) (t : IsVolumeTag tag) → IsTextAt (u64_text t.generation) 8 tag
reads_generation tag t = subst (λ (bs : List ℕ). IsTextAt (u64_text t.generation) 8 bs) (sym t.is) (generation_at t.clean t.generation t.next)

pub reads_next : (tag : List ℕ) (t : IsVolumeTag tag) → IsTextAt (u64_text t.next) 16 tag
reads_next tag t = subst (λ (bs : List ℕ). IsTextAt (u64_text t.next) 16 bs) (sym t.is) (next_at t.clean t.generation t.next)

pub small_generation : (tag : List ℕ) (t : IsVolumeTag tag) → t.generation < 2 ^ 64
small_generation tag t = let h = t.generation_most in omega (arith, h)

pub small_next : (tag : List ℕ) (t : IsVolumeTag tag) → t.next < 2 ^ 64
small_next tag t = let h = t.next_most in omega (arith, h)

mark_of : (c : ℕ) → c ≤ 1 → c ≡ cond (c == 1) 1 0
mark_of c h = grind (arith, nat_tests)

module _ (tag : List ℕ) (t : IsVolumeTag tag) (clean : Bool) (generation next : ℕ) (c : clean ≡ (get_or tag 0 0 == 1)) (g : generation ≡ t.generation) (n : next ≡ t.next) where
  mark : t.clean ≡ cond clean 1 0
  mark = mark_of t.clean t.clean_most ∙ ap (λ k. cond (k == 1) 1 0) (sym (ap (λ bs. get_or bs 0 0) t.is)) ∙ ap (λ b. cond b 1 0) (sym c)

  pub tag_reads : tag ≡ volume_tag (cond clean 1 0) generation next
  tag_reads = t.is ∙ (λ i. volume_tag (mark i) (sym g i) (sym n i))

  pub tag_bounds : IsTagged (record { clean = cond clean 1 0; generation = generation; next = next })
  tag_bounds = record {
    clean_most = let h = t.clean_most in omega (arith, h, mark);
    generation_least = let h = t.generation_least in omega (arith, h, g);
    generation_most = let h = t.generation_most in omega (arith, h, g);
    next_least = let h = t.next_least in omega (arith, h, n);
    next_most = let h = t.next_most in omega (arith, h, n);
  }
