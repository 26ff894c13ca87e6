-- What a command takes from the registers. Specification, section 10.
use Rattle.std.specs.Prelude.{ℕ, cond, List, eqb}
use Rattle.rules.specs.declared.calls.Call.{Call}
use Rattle.registers.specs.Registers.{processor_in, requested_in, tick_in}

-- Clause 10.7: the call that a command makes from the registers: 1 issues, 2 completes, 3 withdraws, 4 hands over. A
-- completion and a withdrawal ignore the entry.
unfoldable pub command_call : List ℕ → ℕ → Call
command_call bytes command =
    cond (eqb command 1) (Call.Issue (processor_in bytes) (requested_in bytes) (tick_in bytes))
    (cond (eqb command 2) (Call.Complete (processor_in bytes) (tick_in bytes))
    (cond (eqb command 3) (Call.Withdraw (processor_in bytes) (tick_in bytes))
    (Call.Handover (processor_in bytes) (requested_in bytes) (tick_in bytes))))
