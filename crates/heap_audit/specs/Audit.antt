-- Why an audit says nothing.
use Rattle.heap_audit.specs.declared.audit_error.AuditError.{AuditError}
use Rattle.heap_audit.specs.declared.audit_error.AuditError.TheVariants as errors
use Rattle.heap_audit.specs.declared.reading.reading_error.ReadingError.{ReadingError}
use Rattle.heap_audit.specs.declared.reading.reading_error.ReadingError.TheVariants as reading_errors

abbrev pub audit_error : ReadingError → AuditError
audit_error reading_errors.NoMemory = errors.NoMemory
audit_error (reading_errors.Bad line) = errors.Bad line
