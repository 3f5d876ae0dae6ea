-- The command that the options of an `encode` are of.
use Rattle.tool_base.specs.declared.command.Command.{Command}
use Rattle.tool_base.specs.declared.command.Command.TheVariants.{Encode}
use Rattle.object_file.specs.declared.options.EncodeOptions.{EncodeOptions}

-- the `encode` of these options
abbrev pub encode_command : EncodeOptions → Command
encode_command o = Encode o.shape o.symbol o.block o.max_n o.format
