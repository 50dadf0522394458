-- Blocks that are staged one after another.
use Rattle.std.proofs.Common.{◌≡◌, ℕ, ◌+◌, ◌-◌, nat_lt, Bool, true, false, if◌then◌else◌, Some, None, List, [], ◌∷◌, ◌++◌, Result, Ok, Err, refl, sym, ap, ◌∙◌, subst, arith}
use Rattle.std.specs.List.{sum}
use Rattle.std.proofs.lemmas.List.Sums.{sum_by-append, sum_by-cons}
use Rattle.tm_base.specs.declared.refused.Refused.{Refused}
use Rattle.tm_base.specs.declared.refused.Refused.TheVariants.{Full}
use Rattle.tm_base.specs.declared.refused.LineFault.{LineFault}
use Rattle.tm_base.specs.declared.refused.LineFault.TheVariants as fault
use Rattle.tm_backup.specs.Answers.{Stages}
use Rattle.tm_backup.specs.Walk.{first_full}

-- another answer with the same error
pub stages_err : {A : Type 0} (B : Type 0) (t free left : ℕ) (bs cs : List ℕ) (r : Result A LineFault) (e : LineFault) → r ≡ Err e → bs ≡ cs → Stages {A = B} t free left cs (Err e) → Stages t free left bs r
stages_err {A} B t free left bs cs r e is same h =
    subst (λ (q : Result A LineFault). Stages t free left bs q) (sym is) (subst (λ (xs : List ℕ). Stages {A = A} t free left xs (Err e)) (sym same) (by_error e h))
  where
    by_error : (e : LineFault) → Stages {A = B} t free left cs (Err e) → Stages {A = A} t free left cs (Err e)
    by_error (fault.Refused why) h = h
    by_error (fault.Fault side) h = h
    by_error fault.Memory h = h

-- the same blocks
pub stages_ok : {A : Type 0} (t free left : ℕ) (bs cs : List ℕ) (a : A) → bs ≡ cs → Stages {A = A} t free left cs (Ok a) → (first_full t free bs ≡ None) × (left + sum bs ≡ free)
stages_ok t free left bs cs a same h = (ap (first_full t free) same ∙ h.0, ap (λ (xs : List ℕ). left + sum xs) same ∙ h.1)

-- ---- one after another

-- the first that doesn't fit is among the first ones, or among the others, which find fewer blocks free
pub full_first : (t free : ℕ) (bs cs : List ℕ) (why : Refused) → first_full t free bs ≡ Some why → first_full t free (bs ++ cs) ≡ Some why
full_first t free [] cs why h = absurd (cc h)
full_first t free (b ∷ bs) cs why h = by_fits (nat_lt free (b + t)) h (full_first t (free - b) bs cs why)
  where
    by_fits : (f : Bool) → (if f then Some (Full (b + t) free) else first_full t (free - b) bs) ≡ Some why → (first_full t (free - b) bs ≡ Some why → first_full t (free - b) (bs ++ cs) ≡ Some why)
        → (if f then Some (Full (b + t) free) else first_full t (free - b) (bs ++ cs)) ≡ Some why
    by_fits true h rest = h
    by_fits false h rest = rest h

sum-cons : (b : ℕ) (bs : List ℕ) → sum (b ∷ bs) ≡ b + sum bs
sum-cons b bs = sum_by-cons (λ (c : ℕ). c) b bs

full_later : (t free left : ℕ) (bs cs : List ℕ) → first_full t free bs ≡ None → left + sum bs ≡ free → first_full t free (bs ++ cs) ≡ first_full t left cs
full_later t free left [] cs h is = ap (λ n. first_full t n cs) (sym (let e : left ≡ free = omega (arith, is) in e))
full_later t free left (b ∷ bs) cs h is = by_fits (nat_lt free (b + t)) h (λ fits. full_later t (free - b) left bs cs fits (omega (arith, is, sum-cons b bs)))
  where
    by_fits : (f : Bool) → (if f then Some (Full (b + t) free) else first_full t (free - b) bs) ≡ None → (first_full t (free - b) bs ≡ None → first_full t (free - b) (bs ++ cs) ≡ first_full t left cs)
        → (if f then Some (Full (b + t) free) else first_full t (free - b) (bs ++ cs)) ≡ first_full t left cs
    by_fits true h rest = absurd (cc h)
    by_fits false h rest = rest h

-- of the blocks of all, those that are left find so many free
pub record Onward (t free left : ℕ) (all rest : List ℕ) : Type 0 where
  pub full : first_full t free all ≡ first_full t left rest
  pub sums : left + sum all ≡ free + sum rest

pub onward_start : (t free : ℕ) (all : List ℕ) → Onward t free free all all
onward_start t free all = record { full = refl; sums = refl }

sum-append : (bs cs : List ℕ) → sum (bs ++ cs) ≡ sum bs + sum cs
sum-append bs cs = sum_by-append (λ (b : ℕ). b) bs cs

pub onward_next : {A : Type 0} (t free left after : ℕ) (all bs rest : List ℕ) (a : A) → Onward t free left all (bs ++ rest) → Stages {A = A} t left after bs (Ok a) → Onward t free after all rest
onward_next t free left after all bs rest a on h = record {
  full = on.full ∙ full_later t left after bs rest h.0 h.1;
  sums = omega (arith, on.sums, h.1, sum-append bs rest);
}

pub onward_end : {A : Type 0} (t free left : ℕ) (all : List ℕ) (a : A) → Onward t free left all [] → Stages {A = A} t free left all (Ok a)
onward_end t free left all a on = (on.full, omega (arith, on.sums))

-- an error among the rest
pub onward_err : {A : Type 0} (B : Type 0) (t free left after : ℕ) (all bs rest : List ℕ) (r : Result A LineFault) (e : LineFault) → r ≡ Err e → Onward t free left all (bs ++ rest) → Stages {A = B} t left after bs (Err e) → Stages t free after all r
onward_err {A} B t free left after all bs rest r e is on h = subst (λ (q : Result A LineFault). Stages t free after all q) (sym is) (by_error e h)
  where
    by_error : (e : LineFault) → Stages {A = B} t left after bs (Err e) → Stages {A = A} t free after all (Err e)
    by_error (fault.Refused why) h = on.full ∙ full_first t left bs rest why h
    by_error (fault.Fault side) h = tt
    by_error fault.Memory h = tt

-- the same blocks, whatever the answer
pub stages_same : {A : Type 0} (t free left : ℕ) (bs cs : List ℕ) (r : Result A LineFault) → bs ≡ cs → Stages t free left cs r → Stages t free left bs r
stages_same t free left bs cs r same h = subst (λ (xs : List ℕ). Stages t free left xs r) (sym same) h

-- what is left, and then all
pub stages_rest : {A : Type 0} (t free left after : ℕ) (all rest : List ℕ) (r : Result A LineFault) → Onward t free left all rest → Stages t left after rest r → Stages t free after all r
stages_rest t free left after all rest (Ok a) on h = (on.full ∙ h.0, omega (arith, on.sums, h.1))
stages_rest t free left after all rest (Err (fault.Refused why)) on h = on.full ∙ h
stages_rest t free left after all rest (Err (fault.Fault side)) on h = tt
stages_rest t free left after all rest (Err fault.Memory) on h = tt

-- some blocks, and then others
pub stages_both : {A : Type 0} (t free left after : ℕ) (bs cs : List ℕ) (r : Result A LineFault) → (first_full t free bs ≡ None) × (left + sum bs ≡ free) → Stages t left after cs r → Stages t free after (bs ++ cs) r
stages_both t free left after bs cs r h g = stages_rest t free left after (bs ++ cs) cs r (record { full = full_later t free left bs cs h.0 h.1; sums = omega (arith, h.1, sum-append bs cs) }) g
