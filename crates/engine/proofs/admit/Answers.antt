-- `engine::admit` meets its contract, by Calls.
use Rattle.engine.proofs.Calls.{admit-scant, admit-room, admit-refused, admit-accepted}
use Rattle.engine.proofs.admit.Goals as goal

pub returns-then-scratch-lt-WORDS : goal.returns-then-scratch-lt-WORDS
returns-then-scratch-lt-WORDS c = admit-scant c.if-scratch-lt-WORDS.true c.from.ensures.0 c.from.ensures.1

pub returns-in-Ok : goal.returns-in-Ok
returns-in-Ok c = admit-accepted c.if-scratch-lt-WORDS.false c.prepare.ensures c.in-Ok.is

pub conclude-requires : goal.conclude-requires
conclude-requires c = admit-room c.if-scratch-lt-WORDS.false c.prepare.ensures

pub returns-in-Err : goal.returns-in-Err
returns-in-Err c = admit-refused c.if-scratch-lt-WORDS.false c.prepare.ensures c.in-Err.is c.conclude.ensures
