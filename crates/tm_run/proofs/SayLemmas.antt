-- What was said.
use Rattle.std.proofs.Common.{◌≡◌, ℕ, List, ◌++◌, take, drop, length, length-append, Result, Ok, Err, OnOk, codes, refl, sym, ap, ◌∙◌, arith, ◌≤◌, subst, append_assoc, append-nil, ◌+◌}
use Rattle.std.proofs.lemmas.List.{take_all, take-append-le, take-append-drop}
use Rattle.std.proofs.Math.Seq.{take-append-add, drop-append_seam}
use Rattle.tm_world.specs.Outside.{Outside, disk, place, spoke}
use Rattle.tm_world.specs.Log.{Log, now, Passes, Says}
use Rattle.tm_world.specs.declared.world.Side.{Side as WorldSide}
use Rattle.tm_world.specs.declared.world.Side.TheVariants.{Volume as VolumeSide, Store as StoreSide}
use Rattle.tm_world.proofs.Going.{Passes-weaker}
use Rattle.tm_world.proofs.Pairs.{Says-ends}
use Rattle.tm_run.specs.Ends.{SaysAll, SaysPrefix, Speaks}
use Rattle.std.specs.Fmt.{decimal}
use Rattle.tm_base.specs.declared.refused.Side.{Side}
use Rattle.tm_world.specs.declared.cause.Cause.{Cause}
use Rattle.tm_run.specs.Outcomes.{bad_image_line, cause_word, side_word}
use Rattle.tm_run.specs.Pairs.{KeepsPair}

-- the line on a bad image, by its words
pub bad_image_is : (s : Side) (c : Cause) (place : ℕ) (which why text : List ℕ) → which ≡ side_word s → why ≡ cause_word c
    → text ≡ codes "bad image " ++ (which ++ (codes " " ++ (why ++ (codes " " ++ (decimal place ++ codes "\n"))))) → text ≡ bad_image_line s c place
unfolding bad_image_line
bad_image_is s c place which why text is_side is_cause is =
    is ∙ ap (λ (w : List ℕ). codes "bad image " ++ (w ++ (codes " " ++ (why ++ (codes " " ++ (decimal place ++ codes "\n")))))) is_side
    ∙ ap (λ (w : List ℕ). codes "bad image " ++ (side_word s ++ (codes " " ++ (w ++ (codes " " ++ (decimal place ++ codes "\n")))))) is_cause

pub said_part : (old new : Log) (bytes : List ℕ) (n : ℕ) → Says old new bytes n → SaysPrefix bytes (now old) (now new)
said_part old new bytes n says = record { count = n; within = says.within; part = (Says-ends old new bytes n says).0 }

pub said_whole : {T E : Type 0} (old new : Log) (bytes : List ℕ) (n : ℕ) (result : Result T E)
    → OnOk result (n ≡ length bytes) → Says old new bytes n → OnOk result (SaysAll bytes (now old) (now new))
said_whole old new bytes n (Ok x) whole says =
    record { all = (Says-ends old new bytes n says).0 ∙ ap (λ (t : List ℕ). (now old).said ++ t) (take_all n bytes (omega (arith, whole))) }
said_whole old new bytes n (Err e) whole says = tt

-- nothing is a prefix of every text
pub said_nothing : (text : List ℕ) (old new : Outside) → new.said ≡ old.said → SaysPrefix text old new
said_nothing text old new same = record { count = 0; within = omega arith; part = same ∙ sym (append-nil old.said) }

-- all of a text is a prefix of it
pub said_all : (text : List ℕ) (old new : Outside) → SaysAll text old new → SaysPrefix text old new
said_all text old new says = record { count = length text; within = omega arith; part = says.all ∙ ap (λ (t : List ℕ). old.said ++ t) (sym (take_all (length text) text (omega arith))) }

-- equal fronts
rest_is : (front a b : List ℕ) → front ++ a ≡ front ++ b → a ≡ b
rest_is front a b is = sym (drop-append_seam front a) ∙ ap (drop (length front)) is ∙ drop-append_seam front b

-- where a prefix of the whole was said, and then a prefix of the text that comes next, a longer prefix of the whole was said
pub prefix_more : (whole text rest : List ℕ) (old mid new : Outside) → SaysPrefix whole old mid → SaysPrefix text mid new
    → old.said ++ whole ≡ mid.said ++ (text ++ rest) → SaysPrefix whole old new
prefix_more whole text rest old mid new first next is =
    let front = take first.count whole in
    let split : front ++ drop first.count whole ≡ whole = take-append-drop first.count whole in
    let same : (old.said ++ front) ++ drop first.count whole ≡ (old.said ++ front) ++ (text ++ rest) =
    append_assoc old.said front _ ∙ ap (λ (t : List ℕ). old.said ++ t) split ∙ is ∙ ap (λ (t : List ℕ). t ++ (text ++ rest)) first.part in
    let left : drop first.count whole ≡ text ++ rest = rest_is (old.said ++ front) _ _ same in
    let whole_is : whole ≡ front ++ (text ++ rest) = sym split ∙ ap (λ (t : List ℕ). front ++ t) left in
    let part_is : take (length front + next.count) whole ≡ front ++ take next.count text =
    ap (take (length front + next.count)) whole_is ∙ take-append-add front (text ++ rest) next.count ∙ ap (λ (t : List ℕ). front ++ t) (take-append-le next.count text rest next.within) in
    record {
      count = length front + next.count;
      within = omega (arith, next.within, ap length whole_is, length-append front (text ++ rest), length-append text rest);
      part = next.part ∙ ap (λ (t : List ℕ). t ++ take next.count text) first.part ∙ append_assoc old.said front _ ∙ ap (λ (t : List ℕ). old.said ++ t) (sym part_is);
    }

-- what was said and what is left to say stay the whole
pub whole_more : (whole text rest : List ℕ) (old mid new : Outside) → SaysAll text mid new
    → old.said ++ whole ≡ mid.said ++ (text ++ rest) → old.said ++ whole ≡ new.said ++ rest
whole_more whole text rest old mid new next is = is ∙ sym (append_assoc mid.said text rest) ∙ ap (λ (t : List ℕ). t ++ rest) (sym next.all)

-- both sides are as they were
pub said_beside : (old new : Log) (bytes : List ℕ) (n : ℕ) → Says old new bytes n → KeepsPair (now old) (now new)
said_beside old new bytes n says = let ends = Says-ends old new bytes n says in record { sides = ends.1; apart = ends.2 }

same_sides : (bytes : List ℕ) (s : Outside) (side : WorldSide) → disk side (spoke bytes s) ≡ disk side s
unfolding spoke disk
same_sides bytes s VolumeSide = refl
same_sides bytes s StoreSide = refl

same_places : (bytes : List ℕ) (s : Outside) (side : WorldSide) → place side (spoke bytes s) ≡ place side s
unfolding spoke
same_places bytes s VolumeSide = refl
same_places bytes s StoreSide = refl

-- at each moment a prefix was said, and nothing else is another
spoke_speaks : (bytes : List ℕ) (s : Outside) (n m : ℕ) → n ≤ length bytes → m ≤ n → Speaks bytes s (spoke (take m bytes) s)
unfolding spoke disk
spoke_speaks bytes s n m within le = record {
  said = record { count = m; within = omega (arith, le, within); part = refl };
  pair = record { sides = same_sides (take m bytes) s; apart = λ apart. apart };
  stands = refl;
  places = same_places (take m bytes) s;
}

pub speaks_at : (old new : Log) (bytes : List ℕ) (n : ℕ) → Says old new bytes n → Passes old new (Speaks bytes (now old))
speaks_at old new bytes n says = Passes-weaker old new _ (Speaks bytes (now old))
    (λ o p. subst (Speaks bytes (now old)) (sym p.2) (spoke_speaks bytes (now old) n p.0 says.within p.1)) says.passes

-- what was said before is the same
pub all_after : (text : List ℕ) (old mid new : Outside) → mid.said ≡ old.said → SaysAll text mid new → SaysAll text old new
all_after text old mid new same says = record { all = says.all ∙ ap (λ (t : List ℕ). t ++ text) same }

pub prefix_after : (text : List ℕ) (old mid new : Outside) → mid.said ≡ old.said → SaysPrefix text mid new → SaysPrefix text old new
prefix_after text old mid new same says = record { count = says.count; within = says.within; part = says.part ∙ ap (λ (t : List ℕ). t ++ take says.count text) same }
