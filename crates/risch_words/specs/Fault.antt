-- Why there is no request, by the error of `clap`.
use Rattle.clap.specs.declared.error.kind.ErrorKind.{ErrorKind}
use Rattle.clap.specs.declared.error.kind.ErrorKind.TheVariants.{OutOfMemory}
use Rattle.risch_words.specs.declared.fault.WordsFault.{WordsFault}
use Rattle.risch_words.specs.declared.fault.WordsFault.TheVariants.{Usage, Memory}

-- want of memory, or the words
abbrev pub fault_of : ErrorKind → WordsFault
fault_of OutOfMemory = Memory
fault_of kind = Usage
