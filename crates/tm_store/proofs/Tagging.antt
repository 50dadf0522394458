-- A tag that fits the rules of a store's tag is one.
use Rattle.std.proofs.Common.{◌≡◌, ℕ, List, Option, Some, None, refl, arith}
use Rattle.tm_gate.specs.Tag.{IsStoreTag}
use Rattle.tm_store_records.specs.Tags.{tag_of, FitsTag}

pub tag_fits : (running : Option ℕ) (number : ℕ) (tag : List ℕ) → tag ≡ tag_of running number → FitsTag running number → IsStoreTag tag
tag_fits None number tag is fits =
    record { running = 0; date = 0; number = number; is = is; running_most = omega arith; date_most = omega arith; no_date = λ none. refl; number_least = fits.least; number_most = fits.most }
tag_fits (Some date) number tag is fits =
    record { running = 1; date = date; number = number; is = is; running_most = omega arith; date_most = fits.date; no_date = λ none. absurd (omega (arith, none)); number_least = fits.least; number_most = fits.most }
