-- The fields of a tag, read.
use Rattle.std.proofs.Common.{◌≡◌, ℕ, zero, suc, ◌↔◌, ◌==◌, ◌^◌, ◌<◌, ◌≤◌, Bool, true, false, cond, get_or, List, Option, Some, None, refl, sym, ap, subst, ◌∙◌, arith}
use Rattle.std.specs.Prelude.{IfSome, IsNone}
use Rattle.tm_codec.specs.Places.{IsTextAt}
use Rattle.tm_codec.specs.Fields.{u64_text}
use Rattle.tm_gate.specs.Tag.{store_tag, IsStoreTag, latest}
use Rattle.tm_store_records.specs.Tags.{tag_of, FitsTag}

date_at : (r d n : ℕ) → IsTextAt (u64_text d) 8 (store_tag r d n)
unfolding u64_text
date_at r d n = refl

number_at : (r d n : ℕ) → IsTextAt (u64_text n) 16 (store_tag r d n)
unfolding u64_text
number_at r d n = refl

module _ (tag : List ℕ) (t : IsStoreTag tag) where
  pub reads_date : IsTextAt (u64_text t.date) 8 tag
  reads_date = subst (λ (bs : List ℕ). IsTextAt (u64_text t.date) 8 bs) (sym t.is) (date_at t.running t.date t.number)

  pub reads_number : IsTextAt (u64_text t.number) 16 tag
  reads_number = subst (λ (bs : List ℕ). IsTextAt (u64_text t.number) 16 bs) (sym t.is) (number_at t.running t.date t.number)

  pub small_date : t.date < 2 ^ 64
  small_date = let h = t.date_most in omega (arith, h)

  pub small_number : t.number < 2 ^ 64
  small_number = let h = t.number_most in omega (arith, h)

  pub mark_is : get_or tag 0 0 ≡ t.running
  mark_is = ap (λ bs. get_or bs 0 0) t.is

-- the date of a tag with these fields
abbrev pub date_of : ℕ → ℕ → Option ℕ
date_of running date = cond (running == 1) (Some date) None

says : (r d n : ℕ) → r ≤ 1 → (r ≡ 0 → d ≡ 0) → store_tag r d n ≡ tag_of (date_of r d) n
says zero d n most none = ap (λ x. store_tag 0 x n) (none refl)
says (suc zero) d n most none = refl
says (suc (suc r)) d n most none = absurd (omega arith)

bounded : (r d : ℕ) → d ≤ latest → IfSome (date_of r d) (λ date. date ≤ latest)
bounded r d most = by_test (r == 1)
  where
    by_test : (b : Bool) → IfSome (cond b (Some d) None) (λ date. date ≤ latest)
    by_test true = most
    by_test false = tt

module _ (tag : List ℕ) (t : IsStoreTag tag) (running : Option ℕ) (number : ℕ) (r : running ≡ date_of t.running t.date) (n : number ≡ t.number) where
  pub tag_says : tag ≡ tag_of running number
  tag_says = t.is ∙ says t.running t.date t.number t.running_most t.no_date ∙ (λ i. tag_of (sym r i) (sym n i))

  pub tag_fits : FitsTag running number
  tag_fits = record {
    date = subst (λ (o : Option ℕ). IfSome o (λ date. date ≤ latest)) (sym r) (bounded t.running t.date t.date_most);
    least = let h = t.number_least in omega (arith, h, n);
    most = let h = t.number_most in omega (arith, h, n);
  }

pub found : (o : Option ℕ) (s : ℕ) → (IsNone o ↔ (latest < s)) → IfSome o (λ m. m ≡ s) → s ≤ latest → o ≡ Some s
found None s none some le = absurd (omega (arith, none.0 refl, le))
found (Some m) s none some le = ap (λ x. Some x) some
