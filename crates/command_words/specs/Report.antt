-- How a command line ends that asks for nothing that can be done.
use Rattle.clap.specs.declared.error.kind.ErrorKind.{ErrorKind}
use Rattle.clap.specs.declared.error.kind.ErrorKind.TheVariants.{DisplayHelp, DisplayVersion}
use Rattle.text_writing.specs.declared.status.Status.{Status}
use Rattle.text_writing.specs.declared.status.Status.TheVariants.{Done, Failed}

-- done where the words ask for help or the version, else failed
abbrev pub status_of : ErrorKind → Status
status_of DisplayHelp = Done
status_of DisplayVersion = Done
status_of kind = Failed
