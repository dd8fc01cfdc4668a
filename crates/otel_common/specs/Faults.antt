-- The number of each fault.
use Rattle.std.specs.Prelude.{ℕ}
use Rattle.otel_common.specs.declared.faults.Fault.{Fault}
use Rattle.otel_common.specs.declared.faults.Fault.TheVariants.{OutOfMemory, UnknownMeter, UnknownInstrument, UnknownHandle, UnknownReader, WrongNumber, WrongKind, AlreadyShutdown, Exhausted, LedgerFull, UseWorker, WorkersMissing, InternalFailure}
use Rattle.otel_common.specs.declared.faults.InternalFault.TheVariants.{ReaderShutDown, Readers}

abbrev pub number_of : Fault → ℕ
number_of OutOfMemory = 1
number_of UnknownMeter = 2
number_of UnknownInstrument = 3
number_of UnknownHandle = 4
number_of UnknownReader = 5
number_of WrongNumber = 6
number_of WrongKind = 7
number_of AlreadyShutdown = 8
number_of (InternalFailure ReaderShutDown) = 9
number_of (InternalFailure (Readers failed first)) = 10
number_of Exhausted = 11
number_of LedgerFull = 12
number_of UseWorker = 13
number_of WorkersMissing = 14
