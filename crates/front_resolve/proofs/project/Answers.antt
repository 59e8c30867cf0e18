-- `front_resolve::project` meets its contract, by Exits.
use Rattle.front_resolve.proofs.Exits.{p-junk, p-row, p-none, p-part, picks-cast}
use borrow.Enum.Refused.{opened}
use Rattle.front_resolve.proofs.project.Goals as goal

pub returns-in-Row : goal.returns-in-Row
returns-in-Row c = record { is = λ l z. record { is = p-row c.in-Row.is (record { form = c.requires.0; long = z }) c.requires.1; long = z } }

pub returns-in-Some : goal.returns-in-Some
returns-in-Some c = let P = picks-cast c.child.ensures c.in-Some.is in record { is = λ l z. record { is = (P.before, λ r R. p-part c.in-Record.is (record { form = c.requires.0; long = z }) P R); long = z } }

pub returns-in-None : goal.returns-in-None
returns-in-None c = record { is = λ l z. record { is = p-none c.in-Record.is (record { form = c.requires.0; long = z }) (picks-cast c.child.ensures c.in-None.is); long = z } }

pub returns-in_default : goal.returns-in_default
returns-in_default c = record { is = λ l z. record { is = p-junk (record { form = c.requires.0; long = z }) (opened c.in_default.in_default-own.keys3); long = z } }
