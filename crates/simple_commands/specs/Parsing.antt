-- What the errors of a parse tell.
use Rattle.clap.specs.declared.error.kind.ErrorKind.{ErrorKind}
use Rattle.clap.specs.declared.error.kind.ErrorKind.TheVariants.{OutOfMemory}
use Rattle.simple_commands.specs.declared.parsing.WordsError.{WordsError}
use Rattle.simple_commands.specs.declared.parsing.WordsError.TheVariants.{NoMemory, Refused}

abbrev pub error_for : ErrorKind → WordsError
error_for OutOfMemory = NoMemory
error_for _ = Refused
