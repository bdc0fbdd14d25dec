mod CopyLimits
