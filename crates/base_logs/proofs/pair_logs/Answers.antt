-- `base_logs::pair_logs`: a refusal of the data, one of its own, or the three records in the target. Assumes nothing.
use Rattle.std.proofs.Common.{refl}
use Rattle.std.proofs.lemmas.Result.{err_from_is_err_and}
use Rattle.base_refusals.proofs.Numbers.{number-above}
use Rattle.base_logs.proofs.Outcome.{data-refused, logs-found, own-refused, own_room, logs-paired}
use Rattle.base_logs.proofs.pair_logs.Goals as goal

pub returns-in_err-read_data : goal.returns-in_err-read_data
returns-in_err-read_data c = let s = c.args in let p = err_from_is_err_and c.from_residual.result c.from_residual.ensures.1 in
    rw (p.1, p.2) (data-refused s.data.now s.first s.second s.t s.target.now c.in_err-read_data.ensures (number-above _))

pub returns-in_err-refusal : goal.returns-in_err-refusal
returns-in_err-refusal c = let s = c.args in let p = err_from_is_err_and c.from_residual-in_err-refusal.result c.from_residual-in_err-refusal.ensures.1 in
    let D = logs-found s.data.now s.first s.second s.t s.target.now c.in_ok-read_data.ensures refl c.table-a.ensures c.table-b.ensures in
    rw (p.1, p.2) (own-refused s.data.now s.first s.second s.t s.target.now D c.in_err-refusal.ensures (number-above _))

pub lay_records-requires : goal.lay_records-requires
lay_records-requires c = let s = c.args in
    let D = logs-found s.data.now s.first s.second s.t s.target.now c.in_ok-read_data.ensures refl c.table-a.ensures c.table-b.ensures in
    own_room s.data.now s.first s.second s.t s.target.now D c.in_ok-refusal.ensures refl

pub returns : goal.returns
returns c = let s = c.args in
    let D = logs-found s.data.now s.first s.second s.t s.target.now c.in_ok-read_data.ensures refl c.table-a.ensures c.table-b.ensures in
    logs-paired s.data.now s.first s.second s.t s.target.now D c.in_ok-refusal.ensures refl c.lay_records.ensures c.records_length.ensures
