-- What a line says by itself: its words, and what they mean.
use Rattle.std.specs.Prelude.{◌≡◌, ℕ, ◌+◌, ◌-◌, ◌*◌, ◌<◌, min, cond, List, [], ◌∷◌, ◌++◌, length, Some, None, Ok, Err, codes, Option, Result, ◌==◌, slice_index_or}
use Rattle.quoting.specs.declared.choice.KeyChoice.TheVariants as key
use Rattle.quoting.specs.declared.choice.KeyChoice.{KeyChoice}
use Rattle.quoting.specs.declared.complaint.Cause.TheVariants.{UnknownLine, UnknownTariff, UnknownKey, WordCount, NotNumber}
use Rattle.quoting.specs.declared.complaint.Cause.{Cause}
use Rattle.quoting.specs.declared.entry.Entry.TheVariants.{Tariff, Key, Schedule, Generator}
use Rattle.quoting.specs.declared.entry.Entry.{Entry}
use Rattle.quoting.specs.declared.entry.TariffName.TheVariants.{Bands, Rates}
use Rattle.quoting.specs.declared.entry.TariffName.{TariffName}
use Rattle.share.specs.declared.load.Load.{Load}
use Rattle.std.specs.Option.{ok_or}
use Rattle.std.specs.Char.{is_ascii_digit, is_whitespace, is_not_whitespace}
use Rattle.std.specs.Str.{NoCharPasses, EmptyOrStartsWithPassing, bytes_eq}
use Rattle.tariff.specs.declared.banded.Banded.TheVariants.{From10, From15}

-- Nothing where the line is blank, an entry, or why it is refused.
abbrev pub Said : Type 0
Said = Result (Option Entry) Cause

-- The text begins with these words, with white space before each, and `rest` follows them.
abbrev pub Spaced : List ℕ → List (List ℕ) → List ℕ → Type 0
Spaced text [] rest = text ≡ rest
Spaced text (w ∷ ws) rest =
    (gap : List ℕ) × (more : List ℕ) × (text ≡ gap ++ (w ++ more)) × (0 < length w) × NoCharPasses is_not_whitespace gap × NoCharPasses is_whitespace w
    × ((end : List ℕ) × EmptyOrStartsWithPassing is_whitespace more end) × Spaced more ws rest

-- The words of a line; of more than five, the first five.
abbrev pub FirstWords : List ℕ → List (List ℕ) → Type 0
FirstWords line ws = (rest : List ℕ) × Spaced line ws rest × (length ws < 5 → NoCharPasses is_not_whitespace rest)

-- A number in digits alone, after n from the digits before. Beyond 4,294,967,295 it is read as that, which is above every limit.
abbrev pub digits_from : ℕ → List ℕ → Option ℕ
digits_from n [] = Some n
digits_from n (c ∷ cs) = cond (is_ascii_digit c) (digits_from (min (n * 10 + (c - 48)) 4294967295) cs) None

abbrev pub number_of : List ℕ → Option ℕ
number_of w = cond (length w == 0) None (digits_from 0 w)

abbrev pub and_then : {A B : Type 0} → Result A Cause → (A → Result B Cause) → Result B Cause
and_then (Ok x) f = f x
and_then (Err c) f = Err c

abbrev pub sized : {A : Type 0} → ℕ → List (List ℕ) → Result A Cause → Result A Cause
sized n ws r = cond (length ws == n) r (Err (WordCount n))

-- The number at place k, counted from 0; a complaint counts from 1.
abbrev pub number_in : List (List ℕ) → ℕ → Result ℕ Cause
number_in ws k = ok_or (number_of (slice_index_or ws k [])) (NotNumber (k + 1))

abbrev pub tariff_in : List (List ℕ) → Result TariffName Cause
tariff_in ws =
    cond (bytes_eq (slice_index_or ws 1 []) (codes "single"))
    (sized 4 ws (and_then (number_in ws 2) (λ export. and_then (number_in ws 3) (λ domestic. Ok (Rates export domestic)))))
    (sized 2 ws (cond (bytes_eq (slice_index_or ws 1 []) (codes "10-20-30")) (Ok (Bands From10))
    (cond (bytes_eq (slice_index_or ws 1 []) (codes "15-25-35")) (Ok (Bands From15)) (Err UnknownTariff))))

abbrev pub key_in : List (List ℕ) → Result KeyChoice Cause
key_in ws =
    sized 2 ws (cond (bytes_eq (slice_index_or ws 1 []) (codes "units")) (Ok key.Units)
    (cond (bytes_eq (slice_index_or ws 1 []) (codes "capacity")) (Ok key.Capacity) (Err UnknownKey)))

abbrev pub schedule_in : List (List ℕ) → Result ℕ Cause
schedule_in ws = sized 2 ws (number_in ws 1)

abbrev pub generator_in : List (List ℕ) → Result Load Cause
generator_in ws =
    sized 4 ws (and_then (number_in ws 1) (λ installed. and_then (number_in ws 2) (λ capacity. and_then (number_in ws 3)
    (λ reading. Ok (record { actual = reading; capacity = capacity; installed = installed })))))

-- The first word says which line it is.
abbrev pub entry_in : List (List ℕ) → Result Entry Cause
entry_in ws =
    cond (bytes_eq (slice_index_or ws 0 []) (codes "tariff")) (and_then (tariff_in ws) (λ t. Ok (Tariff t)))
    (cond (bytes_eq (slice_index_or ws 0 []) (codes "key")) (and_then (key_in ws) (λ k. Ok (Key k)))
    (cond (bytes_eq (slice_index_or ws 0 []) (codes "schedule")) (and_then (schedule_in ws) (λ kw. Ok (Schedule kw)))
    (cond (bytes_eq (slice_index_or ws 0 []) (codes "generator")) (and_then (generator_in ws) (λ load. Ok (Generator load))) (Err UnknownLine))))

abbrev pub said_by : List (List ℕ) → Said
said_by ws = cond (length ws == 0) (Ok None) (and_then (entry_in ws) (λ e. Ok (Some e)))

abbrev pub Says : List ℕ → Said → Type 0
Says line x = (ws : List (List ℕ)) × FirstWords line ws × (x ≡ said_by ws)
