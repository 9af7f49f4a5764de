-- What a record was scheduled for, against what it did, in units of 1/10,000 kWh.
-- Document 01, "The sums", first four points; each formula renders the one of 003, D 2.1, that it names.
use Rattle.std.specs.Prelude.{ℤ, pos, ◌+ℤ◌, ◌-ℤ◌, ◌*ℤ◌}
use Rattle.whole.specs.Signed.{min_ℤ, max_ℤ}
use Rattle.rules.specs.declared.Kind.{Kind}
use Rattle.rules.specs.declared.Kind.TheVariants.{Generator, RealTimeLoad, ProfileLoad, Import, Export, Unknown}
use Rattle.rules.specs.Record.{Entry}

-- "units of 1/10,000 kWh"
abbrev pub units_per_kwh : ℤ
units_per_kwh = pos 10000

-- "multipliers: ten-thousandths": the multiplier 1, which loses nothing
abbrev pub multiplier_one : ℤ
multiplier_one = pos 10000

module _ (r : Entry) where
  open r use {kind, S, A, J, N, O, M, F, H}

  -- 003, UnavailAncServMW: how far the engine's spare room falls short of what it still owes, 0 or less
  unfoldable pub generator_unavailable : ℤ
  generator_unavailable = min_ℤ (pos 0) (M -ℤ A -ℤ (O -ℤ N))

  -- 003, GenDev: S×F - ((A - J)×H - 10,000×N) - 10,000×min(0, M - A - (O - N))
  unfoldable pub generator_deviation : ℤ
  generator_deviation = S *ℤ F -ℤ ((A -ℤ J) *ℤ H -ℤ units_per_kwh *ℤ N) -ℤ units_per_kwh *ℤ generator_unavailable

  -- 003, UnavailDispLoadMW: how much more the load owes than it has to let go, 0 or more
  unfoldable pub load_unavailable : ℤ
  load_unavailable = max_ℤ (pos 0) ((O -ℤ N) -ℤ A)

  -- 003, LoadDev: 10,000×(S - ((A - J) + N) - max(0, (O - N) - A))
  unfoldable pub load_deviation : ℤ
  load_deviation = units_per_kwh *ℤ (S -ℤ ((A -ℤ J) +ℤ N) -ℤ load_unavailable)

  -- 003, ImpDev: S×F - (A - J)×H + 10,000×N
  unfoldable pub import_deviation : ℤ
  import_deviation = S *ℤ F -ℤ (A -ℤ J) *ℤ H +ℤ units_per_kwh *ℤ N

  -- 003, ExpDev: 10,000×(S - A - J)
  unfoldable pub export_deviation : ℤ
  export_deviation = units_per_kwh *ℤ (S -ℤ A -ℤ J)

  abbrev pub deviation_as : Kind → ℤ
  deviation_as Generator = generator_deviation
  deviation_as RealTimeLoad = load_deviation
  deviation_as ProfileLoad = load_deviation
  deviation_as Import = import_deviation
  deviation_as Export = export_deviation
  deviation_as Unknown = pos 0

  unfoldable pub deviation : ℤ
  deviation = deviation_as kind
