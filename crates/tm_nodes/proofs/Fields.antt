-- Parts, names, targets and dates: what reading gives, and what the readers of the code give.
use Rattle.std.proofs.Common.{◌≡◌, ℕ, ◌^◌, ◌<◌, ◌≤◌, ◌≢◌, Bool, true, false, not, ◌&&◌, cond, eqb, leb, List, ◌++◌, length, take, drop, Some, None, refl, sym, ◌∙◌, ap, subst, arith}
use Rattle.std.proofs.Math.Logic.{∥∥₁_elim}
use Rattle.std.proofs.Math.Bool.{Bool-set}
use Rattle.std.specs.Prelude.{codes, IsUtf8, Decides}
use Rattle.std.specs.List.{list_all}
use Rattle.std.specs.Str.{is_utf8}
use Rattle.std.proofs.lemmas.Bool.{leb-true, le-leb}
use Rattle.std.proofs.lemmas.Bool.Decides.{same_from_decides, Decides-and, Decides-not, Decides-eqb, Decides-like, Decides-by_and}
use Rattle.std.proofs.lemmas.List.{append-nil, take_at, drop_at, take-append-drop, length-append, length-take}
use Rattle.std.proofs.lemmas.Str.{IsUtf8-from_is_utf8, is_utf8-from_IsUtf8}
use Rattle.std.specs.Cmp.Lexicographic.{bytes_decides}
use Rattle.tm_base.specs.IsName.{IsName}
use Rattle.tm_base.specs.Days.{last_moment}
use Rattle.tm_codec.specs.Fields.{short_text, long_text}
use Rattle.tm_nodes.specs.Targets.{IsTarget}
use Rattle.tm_nodes.specs.Reading.{bytes_at, short_at, long_at, is_name, is_target, name_at, target_at, moment_at}
use Rattle.tm_nodes.proofs.Formats.{Takes, IsReader, alike, then_reads, only_if_reads}
use Rattle.tm_nodes.proofs.Numbers.{u8_reads, u16_reads, u64_reads}
use Rattle.tm_codec.specs.Fields.{u64_text}

bytes_reads : (n : ℕ) → IsReader (bytes_at n) (λ part. length part ≡ n) (λ part. part)
unfolding bytes_at
bytes_reads n = record { takes = taken; again = given }
  where
    chosen : (test : Bool) (bytes : List ℕ) (x : List ℕ × List ℕ) → leb n (length bytes) ≡ test → cond test (Some (take n bytes, drop n bytes)) None ≡ Some x → (length x.0 ≡ n) × Takes bytes x.0 x.1
    chosen true bytes x is e =
        let same : (take n bytes, drop n bytes) ≡ x = cc in
        let fits : n ≤ length bytes = leb-true n (length bytes) is in
        subst (λ (y : List ℕ × List ℕ). (length y.0 ≡ n) × Takes bytes y.0 y.1) same (omega (arith, length-take n bytes), record { is = sym (take-append-drop n bytes) })
    chosen false bytes x is e = cc

    taken : (bytes : List ℕ) (x : List ℕ × List ℕ) → bytes_at n bytes ≡ Some x → (length x.0 ≡ n) × Takes bytes x.0 x.1
    taken bytes x e = chosen (leb n (length bytes)) bytes x refl e

    given : (part rest : List ℕ) → length part ≡ n → bytes_at n (part ++ rest) ≡ Some (part, rest)
    given part rest len =
        ap (λ t. cond t (Some (take n (part ++ rest), drop n (part ++ rest))) None) (le-leb n (length (part ++ rest)) (omega (arith, length-append part rest)))
        ∙ (λ i. Some (take_at part rest n len i, drop_at part rest n len i))

pub short_reads : IsReader short_at (λ part. length part < 2 ^ 8) short_text
unfolding short_at short_text
short_reads = alike (then_reads length u8_reads bytes_reads (λ n part small len. len)) (λ part kept. kept.0) (λ part small. (small, refl)) (λ part small. refl)

pub long_reads : IsReader long_at (λ part. length part < 2 ^ 16) long_text
unfolding long_at long_text
long_reads = alike (then_reads length u16_reads bytes_reads (λ n part small len. len)) (λ part kept. kept.0) (λ part small. (small, refl)) (λ part small. refl)

-- the tests are the rules
Decides-utf8 : (bytes : List ℕ) → Decides (is_utf8 bytes) (IsUtf8 bytes)
Decides-utf8 bytes = (IsUtf8-from_is_utf8 bytes, is_utf8-from_IsUtf8 bytes)

Decides-leb : (m n : ℕ) → Decides (leb m n) (m ≤ n)
Decides-leb m n = (leb-true m n, le-leb m n)

pub Decides-name : (bytes : List ℕ) → Decides (is_name bytes) (IsName bytes)
unfolding is_name
Decides-name bytes =
    let text = Decides-and _ _ (Decides-and _ _ (Decides-leb 1 (length bytes)) (Decides-leb (length bytes) 255)) (Decides-utf8 bytes) in
    let plain = Decides-by_and (λ b. not (eqb b 47) && not (eqb b 0)) (λ b. (b ≢ 47) × (b ≢ 0)) (list_all (λ b. not (eqb b 47) && not (eqb b 0)))
    (λ b. Decides-and _ _ (Decides-not _ (Decides-eqb b 47)) (Decides-not _ (Decides-eqb b 0))) refl (λ _ _. refl) bytes in
    let no_dots = Decides-and _ _ (Decides-and _ _ (Decides-and _ _ text plain) (Decides-not _ (bytes_decides bytes (codes ".")))) (Decides-not _ (bytes_decides bytes (codes ".."))) in
    Decides-like _
    (λ k. record { some = k.0.0.0.0.0; short = k.0.0.0.0.1; text = k.0.0.0.1; plain = k.0.0.1; no_dot = k.0.1; no_dots = k.1 })
    (λ n. (((((n.some, n.short), n.text), n.plain), n.no_dot), n.no_dots))
    no_dots

pub Decides-target : (bytes : List ℕ) → Decides (is_target bytes) (IsTarget bytes)
unfolding is_target
Decides-target bytes =
    let text = Decides-and _ _ (Decides-and _ _ (Decides-leb 1 (length bytes)) (Decides-leb (length bytes) 1023)) (Decides-utf8 bytes) in
    let plain = Decides-by_and (λ b. not (eqb b 0)) (λ b. b ≢ 0) (list_all (λ b. not (eqb b 0))) (λ b. Decides-not _ (Decides-eqb b 0)) refl (λ _ _. refl) bytes in
    Decides-like _
    (λ k. record { some = k.0.0.0; short = k.0.0.1; text = k.0.1; plain = k.1 })
    (λ t. (((t.some, t.short), t.text), t.plain))
    (Decides-and _ _ text plain)

pub name_reads : IsReader name_at IsName short_text
unfolding name_at
name_reads = alike (then_reads (λ name. name) short_reads (λ name. only_if_reads (is_name name) name) (λ name got small kept. kept.0))
    (λ name kept. (Decides-name name).0 kept.1.1)
    (λ name is. (omega (arith, is.short), (refl, (Decides-name name).1 is)))
    (λ name is. append-nil (short_text name))

pub target_reads : IsReader target_at IsTarget long_text
unfolding target_at
target_reads = alike (then_reads (λ target. target) long_reads (λ target. only_if_reads (is_target target) target) (λ target got small kept. kept.0))
    (λ target kept. (Decides-target target).0 kept.1.1)
    (λ target is. (omega (arith, is.short), (refl, (Decides-target target).1 is)))
    (λ target is. append-nil (long_text target))

pub moment_reads : IsReader moment_at (λ m. m ≤ last_moment) u64_text
unfolding moment_at
moment_reads = alike (then_reads (λ m. m) u64_reads (λ m. only_if_reads (leb m last_moment) m) (λ m got small kept. kept.0))
    (λ m kept. leb-true m last_moment kept.1.1)
    (λ m small. (omega arith, (refl, le-leb m last_moment small)))
    (λ m small. append-nil (u64_text m))

-- as the readers of the code need them
true_from : {P : Type 0} (b : Bool) → Decides b P → P → b ≡ true
true_from b d is = d.1 is

false_from : {P : Type 0} (b : Bool) → Decides b P → (P → ⊥) → b ≡ false
false_from true d never = absurd (never (d.0 refl))
false_from false d never = refl

pub is_name-true : (bytes : List ℕ) → IsName bytes → is_name bytes ≡ true
is_name-true bytes is = true_from (is_name bytes) (Decides-name bytes) is

pub is_name-false : (bytes : List ℕ) → (IsName bytes → ⊥) → is_name bytes ≡ false
is_name-false bytes never = false_from (is_name bytes) (Decides-name bytes) never

pub ruleset names = (is_name-true, is_name-false)

pub is_target-is : (bytes : List ℕ) (r : Bool) → Decides r (IsTarget bytes) → is_target bytes ≡ r
is_target-is bytes r d = same_from_decides (is_target bytes) r (Decides-target bytes) d

-- what a name keeps
pub name_had : (bytes : List ℕ) → ∥ IsName bytes ∥₁ → IsName bytes
name_had bytes had = (Decides-name bytes).0 (∥∥₁_elim had (Bool-set _ _) (λ is. (Decides-name bytes).1 is))

pub name_short : (bytes : List ℕ) → ∥ IsName bytes ∥₁ → length bytes < 2 ^ 8
name_short bytes had = let is = name_had bytes had in omega (arith, is.short)
