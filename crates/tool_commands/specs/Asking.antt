-- Inside: the command that the options of a `perf` are of.
use Rattle.tool_base.specs.declared.command.Command.{Command}
use Rattle.tool_base.specs.declared.command.Command.TheVariants.{Perf}
use Rattle.tool_commands.specs.declared.options.PerfOptions.{PerfOptions}

-- the `perf` of these options
abbrev pub perf_command : PerfOptions → Command
perf_command o = Perf o.shape o.plan.symbol o.k o.n o.plan.loss o.plan.random o.plan.runs
    o.plan.seed o.plan.threshold
