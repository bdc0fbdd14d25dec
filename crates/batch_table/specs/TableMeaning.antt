-- What a batch table means: what the records that it holds mean.
use Rattle.posting.specs.Sources.{Meaning}
use Rattle.batch_table.specs.declared.table.BatchTable.{BatchTable}
use Rattle.batch_table.specs.TableSource.{table_source}

abbrev pub table_meaning : BatchTable → Meaning
table_meaning t = table_source t.houses t.postings.now t.lines.now
