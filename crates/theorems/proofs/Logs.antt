-- "Ship's log against quay log" (document 02, E11), over the contract of the open call.
use mathlib.Core.Path.{◌≡◌, sym, subst}
use Prim.Native.Nat.{ℕ}
use Rattle.spec_encoding.specs.Record.{Bytes}
use Rattle.spec_outcome.specs.Directions.{Fills}
use Rattle.spec_logs.specs.PairLogs.{pair_logs, LogsPaired}
use Rattle.spec_logs.proofs.PairLogs.{paired-answer}
use Rattle.engine.specs.declared.Reply.{Reply}

-- An answer's bytes are read as three well formed tables, those of the papers' procedure, and no pairing within the tolerance has more pairs.
pub logs-paired : (d : Bytes) (m n t : ℕ) (b : Bytes) {c : Bytes} {r : Reply}
    → Fills (pair_logs d m n t b) r.number r.length c → r.number ≡ 0 → LogsPaired d m n t r.length c
logs-paired d m n t b {c} {r} F z = paired-answer d m n t b (subst (λ (k : ℕ). Fills (pair_logs d m n t b) k r.length c) z F)
