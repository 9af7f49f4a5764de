-- The hour that an examined file holds.
use Rattle.rules.specs.Record.{Hour}
use Rattle.rules.specs.HourFile.{hour_in}
use Rattle.hour.specs.declared.examined.Hour as examined

abbrev pub held : examined.Hour → Hour
held x = hour_in x.file.now
