-- `base_logs::lay_records`: three heads, then the cells. Assumes nothing.
use native.Mathlib.Omega.{arith}
use Rattle.base_logs.proofs.ThreeRecords.{pairs-few, counted-logs, three-records, tables-apart}
use Rattle.base_logs.proofs.lay_records.Goals as goal

pub overflow_sub-firsts : goal.overflow_sub-firsts
overflow_sub-firsts c = (pairs-few c.args.data.now c.requires.0 c.rows.ensures c.count_pairs-pairs.ensures).0

pub overflow_sub-seconds : goal.overflow_sub-seconds
overflow_sub-seconds c = omega (arith, (counted-logs c.args.data.now c.args.a c.args.b c.args.t c.rows.ensures c.rows-2.ensures c.count_pairs-pairs.ensures).2)

pub overflow_mul-p6 : goal.overflow_mul-p6
overflow_mul-p6 c = let k = pairs-few c.args.data.now c.requires.0 c.rows.ensures c.count_pairs-pairs.ensures in omega (arith, k.0, k.1)

pub overflow_add-p6 : goal.overflow_add-p6
overflow_add-p6 c = let k = pairs-few c.args.data.now c.requires.0 c.rows.ensures c.count_pairs-pairs.ensures in omega (arith, k.0, k.1)

pub overflow_add-p7 : goal.overflow_add-p7
overflow_add-p7 c = let k = pairs-few c.args.data.now c.requires.0 c.rows.ensures c.count_pairs-pairs.ensures in omega (arith, k.0, k.1)

pub overflow_mul-p7 : goal.overflow_mul-p7
overflow_mul-p7 c = let k = pairs-few c.args.data.now c.requires.0 c.rows.ensures c.count_pairs-pairs.ensures in omega (arith, k.0, k.1)

pub overflow_add-p7-2 : goal.overflow_add-p7-2
overflow_add-p7-2 c = let k = pairs-few c.args.data.now c.requires.0 c.rows.ensures c.count_pairs-pairs.ensures in omega (arith, k.0, k.1)

pub put_head-requires : goal.put_head-requires
put_head-requires c = let k = counted-logs c.args.data.now c.args.a c.args.b c.args.t c.rows.ensures c.rows-2.ensures c.count_pairs-pairs.ensures in record { narrow = omega arith; few = omega (arith, k.1, c.rows.ensures, c.requires.0.first_few); room = omega (arith, c.requires.1) }

pub put_head-requires-2 : goal.put_head-requires-2
put_head-requires-2 c = let k = counted-logs c.args.data.now c.args.a c.args.b c.args.t c.rows.ensures c.rows-2.ensures c.count_pairs-pairs.ensures in record { narrow = omega arith; few = omega (arith, k.1, c.rows.ensures, c.requires.0.first_few); room = omega (arith, k.1, k.2, c.rows.ensures, c.rows-2.ensures, c.requires.1, c.put_head.auto.d) }

pub put_head-requires-3 : goal.put_head-requires-3
put_head-requires-3 c = let k = counted-logs c.args.data.now c.args.a c.args.b c.args.t c.rows.ensures c.rows-2.ensures c.count_pairs-pairs.ensures in record { narrow = omega arith; few = omega (arith, k.2, c.rows-2.ensures, c.requires.0.second_few); room = omega (arith, k.1, k.2, c.rows.ensures, c.rows-2.ensures, c.requires.1, c.put_head.auto.d, c.put_head-2.auto.d) }

pub overflow_add-places : goal.overflow_add-places
overflow_add-places c = let k = pairs-few c.args.data.now c.requires.0 c.rows.ensures c.count_pairs-pairs.ensures in omega (arith, k.0, k.1)

pub overflow_add-places-2 : goal.overflow_add-places-2
overflow_add-places-2 c = let k = pairs-few c.args.data.now c.requires.0 c.rows.ensures c.count_pairs-pairs.ensures in omega (arith, k.0, k.1)

pub lay_rows-requires : goal.lay_rows-requires
lay_rows-requires c = let k = counted-logs c.args.data.now c.args.a c.args.b c.args.t c.rows.ensures c.rows-2.ensures c.count_pairs-pairs.ensures in (c.requires.0, tables-apart k.0 c.args.d.now c.put_head.ensures c.put_head-2.ensures c.put_head-3.ensures (omega (arith, k.1, k.2, c.rows.ensures, c.rows-2.ensures, c.requires.1)))

pub returns : goal.returns
returns c = let k = counted-logs c.args.data.now c.args.a c.args.b c.args.t c.rows.ensures c.rows-2.ensures c.count_pairs-pairs.ensures in three-records k.0 c.args.d.now c.put_head.ensures c.put_head-2.ensures c.put_head-3.ensures c.lay_rows.ensures
