-- The words that the tariffs share.
use Rattle.std.specs.Prelude.{ℕ, ◌+◌, ◌-◌, ◌/◌, min, ℤ, pos, ◌-ℤ◌, unsigned_abs}
use Rattle.tariff.specs.declared.query.Query.{Query}

-- The actual power less the scheduled: below zero where the station delivered too little.
abbrev pub deviation_of : Query → ℤ
deviation_of q = pos q.actual -ℤ pos q.schedule

-- The deviation without its sign.
abbrev pub magnitude : Query → ℕ
magnitude q = unsigned_abs (deviation_of q)

-- The part of n that lies above `low` and up to `high`.
abbrev pub between : ℕ → ℕ → ℕ → ℕ
between n low high = min n high - low

-- n / d, with a half rounded up; d is even.
abbrev pub nearest : ℕ → ℕ → ℕ
nearest n d = (n + d / 2) / d
