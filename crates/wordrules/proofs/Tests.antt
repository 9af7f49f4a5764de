-- What `grind` is given at each table: the table as tests, and what tests tell.
use Rattle.std.proofs.lemmas.Bool.Decides.{nat_tests}
use Rattle.rules.proofs.RuleTables.{block_words, count_words, area_words, generator_words, generator_uses, load_uses, import_uses, export_uses}
use Rattle.rules.proofs.IntervalTables as Interval

pub ruleset block_table = (nat_tests, block_words)

pub ruleset hour_tables = (nat_tests, count_words, area_words, generator_words, generator_uses, load_uses, import_uses, export_uses)

pub ruleset interval_tables = (nat_tests, Interval.interval_words, Interval.generator_uses, Interval.real_time_uses, Interval.profile_uses, Interval.import_uses, Interval.export_uses)
